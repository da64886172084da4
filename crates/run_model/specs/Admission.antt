-- What an admission makes: the next setup script, or the test that is next by the rule of `run_admission`, and the unit
-- that it begins as.
use Rattle.std.specs.Prelude.{ℕ, ◌+◌, ◌<◌, ◌^◌, List, [], ◌∷◌, ◌++◌, Bool, true, false, if◌then◌else◌, Option, Some}
use Rattle.std.specs.Prelude.{None, option_map}
use Rattle.std.specs.Prelude.{option_and_then, map, length, take, drop, count_by, is_none, slice_get, unwrap_or, not}
use Rattle.std.specs.Prelude.{◌&&◌}
use Rattle.std.specs.Prelude.{◌-◌, ◌==◌, nat_lt}
use Rattle.std.specs.List.{list_all, list_any}
use Rattle.run_commands.specs.Interceptor.{disables_timeouts, skips_leak_detection, has_process_group}
use Rattle.run_commands.specs.Interceptor.{passes_stdin_through, interceptor_words, sends_sigtstp}
use Rattle.run_commands.specs.TargetRunner.{runner_for, binary_of, args_of}
use Rattle.run_commands.specs.VersionEnvVars.{version_pairs}
use Rattle.run_commands.specs.declared.target_runner.PlatformRunner.{PlatformRunner}
use Rattle.run_capture.specs.Output.{uncaptured}
use Rattle.run_capture.specs.declared.test_output.CaptureStrategy.{CaptureStrategy}
use Rattle.run_capture.specs.declared.test_output.CaptureStrategy.TheVariants as strategies
use Rattle.run_capture.specs.Captured.{begun}
use Rattle.run_events.specs.Usual.{usual_slow, usual_leak, no_retries}
use Rattle.run_events.specs.declared.settings.Settings.{Settings}
use Rattle.run_events.specs.declared.stress.StressIndex.{StressIndex}
use Rattle.run_events.specs.declared.result.FlakyResult.{FlakyResult}
use Rattle.run_events.specs.declared.result.ScriptEnv.{ScriptEnv}
use Rattle.run_commands.specs.Pair.{Pair}
use Rattle.run_events.specs.declared.result.ScriptEnv.TheVariants.{Unread, Variables}
use Rattle.run_events.specs.declared.result.SlowTimeoutResult.TheVariants.{Fail}
use Rattle.run_events.specs.declared.retry_policy.RetryPolicy.{RetryPolicy}
use Rattle.run_events.specs.declared.plan.PlanScript.{PlanScript}
use Rattle.run_events.specs.declared.plan.PlanTest.{PlanTest}
use Rattle.run_events.specs.declared.plan.GroupSlot.{GroupSlot}
use Rattle.run_events.specs.declared.plan.TestSlotAssignment.{TestSlotAssignment}
use Rattle.run_events.specs.declared.request.TerminateReason.TheVariants.{Timeout}
use Rattle.run_events.specs.declared.message.Message.{Message}
use Rattle.run_events.specs.declared.message.Message.TheVariants.{ScriptStart, Start, Skip}
use Rattle.run_admission.specs.declared.seat.Seat.{Seat}
use Rattle.run_admission.specs.declared.seat.Seat.TheVariants.{Waiting, InUse, Gone}
use Rattle.run_admission.specs.declared.seat.Admitted.{Admitted}
use Rattle.run_admission.specs.declared.seat.Admitted.TheVariants.{Skip as Skipped, Run}
use Rattle.run_admission.specs.InUse.{Admissions, claim_of, admitted}
use Rattle.run_model.specs.declared.phase.Phase.{Phase}
use Rattle.run_model.specs.declared.phase.Phase.TheVariants.{StartSent, Over}
use Rattle.run_model.specs.declared.unit_view.AttemptTerms.{AttemptTerms}
use Rattle.run_model.specs.declared.unit_view.CapturedStreams.{CapturedStreams}
use Rattle.run_model.specs.declared.unit_view.CapturedStreams.TheVariants.{Apart, Combined}
use Rattle.run_model.specs.declared.unit_view.Surroundings.{Surroundings}
use Rattle.run_model.specs.declared.unit_view.UnitRole.{UnitRole}
use Rattle.run_model.specs.declared.unit_view.UnitRole.TheVariants as roles
use Rattle.run_model.specs.declared.unit_view.UnitView.{UnitView}
use Rattle.run_model.specs.Backoff.{retry_count}
use Rattle.run_model.specs.Pauses.{timers_from}
use Rattle.run_model.specs.Environment.{test_start, script_start}

-- whether a phase is the last one
abbrev pub is_last : Phase → Bool
is_last Over = true
is_last _ = false

-- an admitted unit is over
abbrev pub is_done : Option UnitView → Bool
is_done None = false
is_done (Some u) = is_last u.phase

-- what a test holds of the limits: it waits until it is admitted, and holds its slots until it is over. A script holds
-- none
abbrev pub seat_as : UnitRole → Seat
seat_as (roles.Test t) = InUse t.slot.global (option_map (λ g. g.slot) t.slot.group)
seat_as (roles.Script s) = Gone

abbrev pub seat_of : Option UnitView → Seat
seat_of None = Waiting
seat_of (Some u) = if is_last u.phase then Gone else seat_as u.role

-- whether a planned test matches, and so is to run
abbrev pub is_matched : PlanTest → Bool
is_matched test = is_none test.skip

-- which sub-run of a stress run a unit is of, if it is of one
abbrev pub index_of_role : UnitRole → Option StressIndex
index_of_role (roles.Test t) = t.test.stress_index
index_of_role (roles.Script s) = s.script.stress_index

-- how many setup scripts, tests and units the plan has
abbrev pub scripts_in : Settings → ℕ
scripts_in p = length p.plan.scripts

abbrev pub tests_in : Settings → ℕ
tests_in p = length p.plan.tests

abbrev pub units_in : Settings → ℕ
units_in p = scripts_in p + tests_in p

-- units are numbered scripts first: the unit that the test at a place is
abbrev pub unit_of_test : Settings → ℕ → ℕ
unit_of_test p j = scripts_in p + j

-- how many tests match, and so are to run
abbrev pub matched_in : Settings → ℕ
matched_in p = count_by is_matched p.plan.tests

-- what a pass after a failed attempt counts as: for all tests alike where that is set
abbrev pub flaky_of : Settings → PlanTest → FlakyResult
flaky_of p test = unwrap_or p.flaky_result test.flaky

-- how often a test is tried again: as often as all tests where that is set
abbrev pub retries_of : Settings → PlanTest → RetryPolicy
retries_of p test = unwrap_or p.retries test.retries

-- the streams of a test's child that a strategy captures, and those of a script's: each where that is said, none where
-- nothing is captured
abbrev pub streams_by : CaptureStrategy → CapturedStreams
streams_by strategies.None = Apart false false
streams_by strategies.Split = Apart true true
streams_by strategies.Combined = Combined

abbrev pub script_streams : CaptureStrategy → PlanScript → CapturedStreams
script_streams strategies.None script = Apart false false
script_streams strategy script = Apart script.capture_stdout script.capture_stderr

-- on which terms the attempts of a test run, and of the test at a place: where there is none, those of a usual test
abbrev pub terms_of : Settings → PlanTest → AttemptTerms
terms_of p test = record {
  streams = streams_by p.capture;
  slow = test.slow;
  leak = test.leak;
  disables_timeouts = disables_timeouts p.interceptor;
  skips_leak_detection = skips_leak_detection p.interceptor;
  reads_env = false;
  retries = retries_of p test;
  stops = sends_sigtstp p.interceptor;
}

abbrev pub terms_if : Settings → Option PlanTest → AttemptTerms
terms_if p None = record {
  streams = streams_by p.capture;
  slow = usual_slow;
  leak = usual_leak;
  disables_timeouts = disables_timeouts p.interceptor;
  skips_leak_detection = skips_leak_detection p.interceptor;
  reads_env = false;
  retries = no_retries;
  stops = sends_sigtstp p.interceptor;
}
terms_if p (Some test) = terms_of p test

abbrev pub terms_at : Settings → ℕ → AttemptTerms
terms_at p j = terms_if p (slice_get p.plan.tests j)

-- on which terms a script runs, once and under no interceptor: one that runs out of time has failed
abbrev pub script_terms : Settings → PlanScript → AttemptTerms
script_terms p script = record {
  streams = script_streams p.capture script;
  slow = record script.slow { on_timeout = Fail };
  leak = script.leak;
  disables_timeouts = false;
  skips_leak_detection = false;
  reads_env = true;
  retries = no_retries;
  stops = sends_sigtstp p.interceptor;
}

abbrev pub script_terms_if : Settings → Option PlanScript → AttemptTerms
script_terms_if p None = terms_if p None
script_terms_if p (Some script) = script_terms p script

-- whether a unit is a script, by its number: scripts come first
abbrev pub is_script : Settings → ℕ → Bool
is_script p k = nat_lt k (scripts_in p)

-- on which terms the attempts of a unit run
abbrev pub unit_terms : Settings → ℕ → AttemptTerms
unit_terms p k =
    if is_script p k then script_terms_if p (slice_get p.plan.scripts k) else terms_at p (k - scripts_in p)

-- a plan that can be numbered: its units are fewer than 2^32, and so are the attempts of each of its tests
pub record AreFew (p : Settings) : Type 0 where
  pub units : units_in p < 2 ^ 32
  pub attempts : (j : ℕ) → retry_count (terms_at p j).retries + 1 < 2 ^ 32

-- what the children of tests have alike, and those of scripts, which run under no interceptor
abbrev pub surroundings_of : Settings → Surroundings
surroundings_of p = record {
  run = record {
    run_id = p.plan.head.run_id;
    mode = p.plan.head.mode;
    threads = p.threads;
    workspace_root = p.plan.head.workspace_root;
    versions = version_pairs p.plan.head.versions;
  };
  wrapper = interceptor_words p.interceptor;
  group = has_process_group p.interceptor;
  stdin = passes_stdin_through p.interceptor;
}

abbrev pub script_surroundings : Settings → Surroundings
script_surroundings p = record (surroundings_of p) { wrapper = []; group = true; stdin = false }

-- the words of a runner, and the command of a test, before whose words stand those of its platform's runner
abbrev pub runner_words : Option PlatformRunner → List (List ℕ)
runner_words None = []
runner_words (Some runner) = binary_of runner ∷ args_of runner

abbrev pub command_of : Settings → PlanTest → List (List ℕ)
command_of p test = runner_words (runner_for p.plan.runners test.platform) ++ test.command

-- a slot outside of all groups
abbrev pub global_slot : ℕ → TestSlotAssignment
global_slot n = record { global = n; group = None }

-- the slots of a test, with the name of its group
abbrev pub group_slot : Option ℕ → Option (List ℕ) → Option GroupSlot
group_slot (Some slot) (Some name) = Some (record { slot = slot; name = name })
group_slot _ _ = None

abbrev pub slots_of : PlanTest → ℕ → Option ℕ → TestSlotAssignment
slots_of test global slot = record { global = global; group = group_slot slot test.group }

-- a unit as it begins, in this role, with this command, in these surroundings and on these terms
abbrev pub begun_view : UnitRole → List (List ℕ) → Surroundings → AttemptTerms → UnitView
begun_view role command around terms = record {
  role = role;
  command = command;
  around = around;
  terms = terms;
  phase = StartSent;
  attempt = 1;
  delay = 0;
  timers = timers_from 0;
  pid = 0;
  ending = Timeout;
  line = [];
  latest = 0;
  capture = begun uncaptured;
  exit = None;
  exit_result = None;
  leaked = false;
  env = Unread;
  statuses = [];
}

-- a test as a unit of this number, as it begins in this slot, where its scripts handed these variables on
abbrev pub test_role : Settings → Option StressIndex → ℕ → TestSlotAssignment → List Pair → PlanTest → UnitRole
test_role p index k slot handed test = roles.Test (record {
  test = record { unit = k; id = test.id; stress_index = index };
  slot = slot;
  flaky = flaky_of p test;
  handed = handed;
})

abbrev pub first_view : Settings → Option StressIndex → ℕ → TestSlotAssignment → List Pair → PlanTest → UnitView
first_view p index k slot handed test =
    begun_view (test_role p index k slot handed test) (command_of p test) (surroundings_of p) (terms_of p test)

-- a skipped test as a unit: over from its admission, so it holds no slot, whatever its number
abbrev pub skipped_view : Settings → Option StressIndex → ℕ → PlanTest → UnitView
skipped_view p index k test = record (first_view p index k (global_slot 0) [] test) { phase = Over }

-- a script as a unit, as it begins: its number is its place
abbrev pub script_role : Settings → Option StressIndex → ℕ → PlanScript → UnitRole
script_role p index i script = roles.Script (record {
  script = record {
    unit = i;
    id = script.id;
    index = i;
    total = scripts_in p;
    no_capture = not (script.capture_stdout && script.capture_stderr);
    stress_index = index;
  };
  env_path = script.env_path;
})

abbrev pub script_view : Settings → Option StressIndex → ℕ → PlanScript → UnitView
script_view p index i script =
    begun_view (script_role p index i script) script.command (script_surroundings p) (script_terms p script)

-- the message of a unit's start, and that of a test's skip for a reason
abbrev pub start_message : UnitRole → UnitView → Message
start_message (roles.Test t) u = Start (test_start t u)
start_message (roles.Script s) u = ScriptStart (script_start s u)

abbrev pub skip_message : Option StressIndex → ℕ → PlanTest → List ℕ → Message
skip_message index k test reason =
    Skip (record { test = record { unit = k; id = test.id; stress_index = index }; reason = reason })

-- what an admission makes: a unit, and the message that it sends
pub record Newcomer : Type 0 where
  pub unit : UnitView
  pub sent : Message

abbrev pub skipped_newcomer : Settings → Option StressIndex → ℕ → PlanTest → List ℕ → Newcomer
skipped_newcomer p index k test reason =
    record { unit = skipped_view p index k test; sent = skip_message index k test reason }

abbrev pub started_newcomer : UnitView → Newcomer
started_newcomer u = record { unit = u; sent = start_message u.role u }

-- what the tests of the plan hold of the limits, by the list of units
abbrev pub limits_of : Settings → List (Option UnitView) → Admissions
limits_of p us = record {
  threads = p.threads;
  limits = map (λ g. g.limit) p.plan.groups;
  claims = map (claim_of p.plan.groups) p.plan.tests;
  seats = map seat_of (drop (scripts_in p) us);
}

-- a test that doesn't match is skipped
abbrev pub newcomer_skipped : Settings → Option StressIndex → ℕ → PlanTest → Option (List ℕ) → Option Newcomer
newcomer_skipped p index j test (Some reason) = Some (skipped_newcomer p index (unit_of_test p j) test reason)
newcomer_skipped p index j test None = None

-- the variables that a script handed on: none where it gave none
abbrev pub variables_of : ScriptEnv → List Pair
variables_of (Variables pairs) = pairs
variables_of _ = []

abbrev pub handed_by : Option UnitView → List Pair
handed_by None = []
handed_by (Some u) = variables_of u.env

-- those of the units with these numbers, in the order of the units from this number on, each once
abbrev pub handed_from : List ℕ → ℕ → List (Option UnitView) → List Pair
handed_from numbers k [] = []
handed_from numbers k (u ∷ us) =
    (if list_any (λ n. n == k) numbers then handed_by u else []) ++ handed_from numbers (k + 1) us

-- the scripts, by the list of units
abbrev pub scripts_of : Settings → List (Option UnitView) → List (Option UnitView)
scripts_of p us = take (scripts_in p) us

-- what the scripts of a test handed on to it: a number that is no script's is passed over
abbrev pub handed_to : Settings → List (Option UnitView) → PlanTest → List Pair
handed_to p us test = handed_from test.scripts 0 (scripts_of p us)

-- what an admission makes of a test of the plan: it is skipped, or starts in its slots
abbrev pub newcomer_as : Settings → Option StressIndex → List (Option UnitView) → Admitted → Option PlanTest
    → Option Newcomer
newcomer_as p index us _ None = None
newcomer_as p index us (Skipped j) (Some test) = newcomer_skipped p index j test test.skip
newcomer_as p index us (Run j global slot) (Some test) = Some (started_newcomer
    (first_view p index (unit_of_test p j) (slots_of test global slot) (handed_to p us test) test))

-- the test that is admitted
abbrev pub test_of : Admitted → ℕ
test_of (Skipped j) = j
test_of (Run j global slot) = j

-- what the next admission makes of a test, where one can be admitted
abbrev pub test_newcomer : Settings → Option StressIndex → List (Option UnitView) → Option Newcomer
test_newcomer p index us =
    option_and_then (λ a. newcomer_as p index us a (slice_get p.plan.tests (test_of a))) (admitted (limits_of p us))

-- the place of the first of some scripts that wasn't admitted, where each before it is over
abbrev pub open_script : List (Option UnitView) → Option ℕ
open_script [] = None
open_script (None ∷ us) = Some 0
open_script (Some u ∷ us) = if is_last u.phase then option_map (λ i. i + 1) (open_script us) else None

-- what an admission makes of the script at a place
abbrev pub script_newcomer : Settings → Option StressIndex → ℕ → Option PlanScript → Option Newcomer
script_newcomer p index i None = None
script_newcomer p index i (Some script) = Some (started_newcomer (script_view p index i script))

-- all scripts are over: tests come after them
abbrev pub scripts_over : Settings → List (Option UnitView) → Bool
scripts_over p us = list_all is_done (scripts_of p us)

-- what the next admission makes in such a sub-run of a stress run, if it is one: a script once those before it are
-- over, and a test once all are
abbrev pub newcomer : Settings → Option StressIndex → List (Option UnitView) → Option Newcomer
newcomer p index us =
    if scripts_over p us
    then test_newcomer p index us
    else option_and_then (λ i. script_newcomer p index i (slice_get p.plan.scripts i)) (open_script (scripts_of p us))
