-- What a plan line says.
use Rattle.std.specs.Prelude.{ℕ, List, [], ◌∷◌, length, Option, Some, None, option_and_then, if◌then◌else◌, nat_eq}
use Rattle.std.specs.Prelude.{codes}
use Rattle.std.specs.Prelude.{◌+◌, ◌==◌, ◌||◌, nat_lt, false}
use Rattle.serde_json.specs.Data.{Data, Items, no_items, item}
use Rattle.serde_json.specs.Find.{get, as_str, as_array}
use Rattle.run_capture.specs.declared.test_output.CaptureStrategy.{CaptureStrategy}
use Rattle.run_capture.specs.declared.test_output.CaptureStrategy.TheVariants as capture
use Rattle.run_commands.specs.declared.interceptor.Interceptor.TheVariants as under
use Rattle.run_commands.specs.declared.target_runner.TargetRunner.{TargetRunner}
use Rattle.run_events.specs.declared.input.InputHandlerKind.{InputHandlerKind}
use Rattle.run_events.specs.declared.input.InputHandlerKind.TheVariants as inputs
use Rattle.run_events.specs.declared.plan.Group.{Group}
use Rattle.run_events.specs.declared.plan.Hearing.{Hearing}
use Rattle.run_events.specs.declared.plan.Plan.{Plan}
use Rattle.run_events.specs.declared.plan.PlanScript.{PlanScript}
use Rattle.run_events.specs.declared.plan.PlanTest.{PlanTest}
use Rattle.run_events.specs.declared.plan.RunHead.{RunHead}
use Rattle.run_events.specs.declared.result.FlakyResult.{FlakyResult}
use Rattle.run_events.specs.declared.retry_policy.MaxFail.{MaxFail}
use Rattle.run_events.specs.declared.retry_policy.MaxFail.TheVariants.{All, Count}
use Rattle.run_events.specs.declared.retry_policy.RetryPolicy.{RetryPolicy}
use Rattle.run_events.specs.declared.retry_policy.TerminateMode.{TerminateMode}
use Rattle.run_events.specs.declared.retry_policy.TerminateMode.TheVariants as modes
use Rattle.run_events.specs.declared.signal.SignalHandlerKind.{SignalHandlerKind}
use Rattle.run_events.specs.declared.signal.SignalHandlerKind.TheVariants as handlers
use Rattle.run_input.specs.declared.plan_line.RunnerKeys.{RunnerKeys}
use Rattle.run_input.specs.Fields.{◌>>=◌, when, is_object_of, optional, or_usual, truth_of, u32_of, u64_of}
use Rattle.run_input.specs.PlanExpected.{expected_of}
use Rattle.run_input.specs.PlanHead.{frame_of}
use Rattle.run_input.specs.PlanInterceptor.{interceptor_of}
use Rattle.run_input.specs.PlanRetries.{retries_from, flaky_from}
use Rattle.run_input.specs.PlanScripts.{scripts_listed}
use Rattle.run_input.specs.PlanStress.{stress_of}
use Rattle.run_input.specs.PlanTest.{test_from}
use lib.Pointwise.{pointwise}

-- the way of capture that a text names
abbrev pub capture_named : List ℕ → Option CaptureStrategy
capture_named name =
    if pointwise nat_eq name (codes "none") then Some capture.None
    else if pointwise nat_eq name (codes "split") then Some capture.Split
    else if pointwise nat_eq name (codes "combined") then Some capture.Combined
    else None

abbrev pub capture_of : Data → Option CaptureStrategy
capture_of d = option_and_then capture_named (as_str d)

-- what a text says of the tests that run where too many have failed
abbrev pub terminate_named : List ℕ → Option TerminateMode
terminate_named name =
    if pointwise nat_eq name (codes "wait") then Some modes.Wait
    else if pointwise nat_eq name (codes "immediate") then Some modes.Immediate
    else None

abbrev pub terminate_of : Data → Option TerminateMode
terminate_of d = option_and_then terminate_named (as_str d)

-- after how many failures no test starts any more, and what becomes then of those that run
unfoldable pub max_fail_of : Data → Option MaxFail
max_fail_of d = do
  _ ← when (is_object_of (codes "count" ∷ codes "mode" ∷ []) d)
  count ← option_and_then u32_of (get (codes "count") d)
  mode ← option_and_then terminate_of (get (codes "mode") d)
  Some (Count count mode)

-- how output is captured, how many tests run at a time, and after how many failures none starts any more
abbrev pub limits_from : Data → Option (CaptureStrategy × Option ℕ × MaxFail)
limits_from d = do
  capture ← or_usual capture.Split capture_of (get (codes "capture") d)
  threads ← optional u32_of (get (codes "threads") d)
  max_fail ← or_usual All max_fail_of (get (codes "max_fail") d)
  Some (capture, threads, max_fail)

-- how often each test is tried again, and what a pass counts as then
abbrev pub retrying_of : Data → Option (Option RetryPolicy × Option FlakyResult)
retrying_of d = do
  retries ← optional retries_from (get (codes "retries") d)
  flaky_result ← optional flaky_from (get (codes "flaky_result") d)
  Some (retries, flaky_result)

-- what the keys of a plan line set of a runner: where nothing else is said output is captured split, all tests run
-- once, each has its own retries, none runs under a debugger or a tracer, and the run is no rerun
abbrev pub keys_of : Data → Option RunnerKeys
keys_of d = do
  limits ← limits_from d
  retrying ← retrying_of d
  stress ← optional stress_of (get (codes "stress") d)
  interceptor ← or_usual under.None interceptor_of (get (codes "interceptor") d)
  expected ← optional expected_of (get (codes "expected") d)
  Some (record {
    capture = limits.0;
    threads = limits.1;
    max_fail = limits.2;
    stress = stress;
    retries = retrying.0;
    flaky_result = retrying.1;
    interceptor = interceptor;
    expected = expected;
  })

-- the signals that a text names
abbrev pub signals_named : List ℕ → Option SignalHandlerKind
signals_named name =
    if pointwise nat_eq name (codes "standard") then Some handlers.Standard
    else if pointwise nat_eq name (codes "debugger") then Some handlers.DebuggerMode
    else if pointwise nat_eq name (codes "noop") then Some handlers.Noop
    else None

abbrev pub signals_of : Data → Option SignalHandlerKind
signals_of d = option_and_then signals_named (as_str d)

-- the keys that a text names
abbrev pub input_named : List ℕ → Option InputHandlerKind
input_named name =
    if pointwise nat_eq name (codes "standard") then Some inputs.Standard
    else if pointwise nat_eq name (codes "noop") then Some inputs.Noop
    else None

abbrev pub input_of : Data → Option InputHandlerKind
input_of d = option_and_then input_named (as_str d)

-- which signals and keys a run hears, all of them where nothing is said, and whether a quit asks for information
abbrev pub hearing_from : Data → Option Hearing
hearing_from d = do
  signals ← or_usual handlers.Standard signals_of (get (codes "signals") d)
  input ← or_usual inputs.Standard input_of (get (codes "input") d)
  quit_is_info ← or_usual false truth_of (get (codes "quit_is_info") d)
  Some (record { signals = signals; input = input; quit_is_info = quit_is_info })

-- what a run hears, and how long it may take
abbrev pub rules_from : Data → Option (Hearing × Option ℕ)
rules_from d = do
  hearing ← hearing_from d
  global_timeout ← optional u64_of (get (codes "global_timeout") d)
  Some (hearing, global_timeout)

-- a group, with its limit
unfoldable pub group_from : Data → Option Group
group_from d = do
  _ ← when (is_object_of (codes "limit" ∷ codes "name" ∷ []) d)
  limit ← option_and_then u32_of (get (codes "limit") d)
  name ← option_and_then as_str (get (codes "name") d)
  Some (record { name = name; limit = limit })

-- the groups of items, each of which is one
abbrev pub groups_from : Items → Option (List Group)
groups_from no_items = Some []
groups_from (item d ds) = do
  group ← group_from d
  groups ← groups_from ds
  Some (group ∷ groups)

-- a list of groups
abbrev pub groups_of : Data → Option (List Group)
groups_of d = option_and_then groups_from (as_array d)

-- the tests of items, each of which is one, in a plan line of this version
abbrev pub tests_from : ℕ → Items → Option (List PlanTest)
tests_from version no_items = Some []
tests_from version (item d ds) = do
  test ← test_from version d
  tests ← tests_from version ds
  Some (test ∷ tests)

-- a list of tests
abbrev pub tests_of : ℕ → Data → Option (List PlanTest)
tests_of version d = option_and_then (tests_from version) (as_array d)

-- the tests of a plan are fewer than 2^32
abbrev pub plan_tests_of : ℕ → Option Data → Option (List PlanTest)
plan_tests_of version d = do
  tests ← option_and_then (tests_of version) d
  _ ← when (nat_lt (length tests) 4294967296)
  Some tests

-- the groups of a plan, none where nothing is said, are fewer than 2^32
abbrev pub plan_groups_of : Option Data → Option (List Group)
plan_groups_of d = do
  groups ← or_usual [] groups_of d
  _ ← when (nat_lt (length groups) 4294967296)
  Some groups

-- the setup scripts of a plan, none where nothing is said, are fewer than 2^32
abbrev pub plan_scripts_of : Option Data → Option (List PlanScript)
plan_scripts_of d = do
  scripts ← or_usual [] scripts_listed d
  _ ← when (nat_lt (length scripts) 4294967296)
  Some scripts

-- the groups, the setup scripts and the tests of a plan: scripts and tests together are fewer than 2^32
abbrev pub lists_of : ℕ → Data → Option (List Group × List PlanScript × List PlanTest)
lists_of version d = do
  groups ← plan_groups_of (get (codes "groups") d)
  scripts ← plan_scripts_of (get (codes "scripts") d)
  tests ← plan_tests_of version (get (codes "tests") d)
  _ ← when (nat_lt (length scripts + length tests) 4294967296)
  Some (groups, scripts, tests)

-- a plan with these rules, of this head and these runners, with these groups, scripts and tests
abbrev pub plan_with : Hearing × Option ℕ → RunHead × TargetRunner
    → List Group × List PlanScript × List PlanTest → Plan
plan_with rules frame lists = record {
  head = frame.0;
  hearing = rules.0;
  global_timeout = rules.1;
  groups = lists.0;
  runners = frame.1;
  scripts = lists.1;
  tests = lists.2;
}

-- the keys that a plan line may have
abbrev pub plan_names : List (List ℕ)
plan_names =
    codes "args" ∷ codes "capture" ∷ codes "expected" ∷ codes "flaky_result" ∷ codes "global_timeout" ∷ codes "groups"
    ∷ codes "input" ∷ codes "interceptor" ∷ codes "max_fail" ∷ codes "mode" ∷ codes "nextest_version" ∷ codes "profile"
    ∷ codes "quit_is_info" ∷ codes "recommended_version" ∷ codes "required_version" ∷ codes "retries" ∷ codes "run_id"
    ∷ codes "runners" ∷ codes "scripts" ∷ codes "signals" ∷ codes "started_at" ∷ codes "stress" ∷ codes "tests"
    ∷ codes "threads" ∷ codes "version" ∷ codes "workspace_root" ∷ []

-- the version of the form of plan lines: the second has the priorities of tests besides
abbrev pub plan_version_of : Data → Option ℕ
plan_version_of d = do
  version ← u64_of d
  _ ← when (version == 1 || version == 2)
  Some version

-- the plan, without what is set of a runner
abbrev pub plan_alone_of : Data → Option Plan
plan_alone_of d = do
  version ← or_usual 1 plan_version_of (get (codes "version") d)
  rules ← rules_from d
  frame ← frame_of d
  lists ← lists_of version d
  Some (plan_with rules frame lists)

-- a plan line: what it sets of a runner, and its plan
unfoldable pub plan_of : Data → Option (RunnerKeys × Plan)
plan_of d = do
  _ ← when (is_object_of plan_names d)
  keys ← keys_of d
  plan ← plan_alone_of d
  Some (keys, plan)
