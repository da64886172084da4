-- The line of a plan: what stands at its keys. What is as usual is left out.
use Rattle.std.specs.Prelude.{ℕ, zero, suc, ℤ, pos, negsuc, ◌&&◌, Bool, true, false, not, List, [], ◌∷◌, ◌++◌, Option}
use Rattle.std.specs.Prelude.{Some, None, option_map, is_none}
use Rattle.std.specs.Prelude.{codes, if◌then◌else◌, nat_eq, length}
use Rattle.serde_json.specs.Data.{Data, boolean, string}
use Rattle.serde_json.specs.Written.{compact_text}
use Rattle.uuid.specs.Text.{hyphenated_text, lower}
use Rattle.run_capture.specs.declared.test_output.CaptureStrategy.{CaptureStrategy}
use Rattle.run_capture.specs.declared.test_output.CaptureStrategy.TheVariants as capture
use Rattle.run_commands.specs.declared.target_runner.BuildPlatform.{BuildPlatform}
use Rattle.run_commands.specs.declared.target_runner.BuildPlatform.TheVariants as platforms
use Rattle.run_events.specs.Usual.{usual_leak, usual_slow}
use Rattle.run_events.specs.declared.plan.Group.{Group}
use Rattle.run_events.specs.declared.plan.LeakTimeout.{LeakTimeout}
use Rattle.run_events.specs.declared.plan.PlanScript.{PlanScript}
use Rattle.run_events.specs.declared.plan.PlanTest.{PlanTest}
use Rattle.run_events.specs.declared.plan.SlowTimeout.{SlowTimeout}
use Rattle.run_events.specs.declared.result.FlakyResult.{FlakyResult}
use Rattle.run_events.specs.declared.result.FlakyResult.TheVariants as flakies
use Rattle.run_events.specs.declared.result.LeakTimeoutResult.{LeakTimeoutResult}
use Rattle.run_events.specs.declared.result.LeakTimeoutResult.TheVariants as leaks
use Rattle.run_events.specs.declared.result.SlowTimeoutResult.{SlowTimeoutResult}
use Rattle.run_events.specs.declared.result.SlowTimeoutResult.TheVariants as timeouts
use Rattle.run_events.specs.declared.retry_policy.MaxFail.{MaxFail}
use Rattle.run_events.specs.declared.retry_policy.MaxFail.TheVariants.{All, Count}
use Rattle.run_events.specs.declared.retry_policy.RetryPolicy.{RetryPolicy}
use Rattle.run_events.specs.declared.retry_policy.RetryPolicy.TheVariants.{Fixed, Exponential}
use Rattle.run_events.specs.declared.retry_policy.TerminateMode.{TerminateMode}
use Rattle.run_events.specs.declared.retry_policy.TerminateMode.TheVariants as modes
use Rattle.run_input.specs.PlanScripts.{usual_script_slow}
use Rattle.run_output.specs.Fields.{array_of, count, object_of, signed, texts}
use Rattle.run_output.specs.Stress.{condition_data}
use Rattle.run_plan_line.specs.declared.said.SaidPlan.{SaidPlan}

-- keys, each with what stands there, if anything does
abbrev pub KeyedFields : Type 0
KeyedFields = List (List ℕ × Option Data)

-- a number that is left out where it is the usual one
abbrev pub number_unless : ℕ → ℕ → Option Data
number_unless usual n = if nat_eq n usual then None else Some (count n)

-- a truth value that is left out where it is false, and one that is left out where it is true
abbrev pub if_true : Bool → Option Data
if_true true = Some (boolean true)
if_true false = None

abbrev pub if_false : Bool → Option Data
if_false true = None
if_false false = Some (boolean false)

-- a list that is left out where it is empty
abbrev pub list_if_any : {X : Type 0} → (X → Data) → List X → Option Data
list_if_any printed list = if nat_eq (length list) 0 then None else Some (array_of printed list)

-- the word of what a time-out counts as, and of what a leak does: each left out where it is the usual one
abbrev pub timeout_result_word : SlowTimeoutResult → Option Data
timeout_result_word timeouts.Fail = None
timeout_result_word timeouts.Pass = Some (string (codes "pass"))

abbrev pub leak_result_word : LeakTimeoutResult → Option Data
leak_result_word leaks.Pass = None
leak_result_word leaks.Fail = Some (string (codes "fail"))

-- the word of what a pass after a failed attempt counts as
abbrev pub flaky_word : FlakyResult → List ℕ
flaky_word flakies.Pass = codes "pass"
flaky_word flakies.Fail = codes "fail"

abbrev pub flaky_unless_pass : FlakyResult → Option Data
flaky_unless_pass flakies.Pass = None
flaky_unless_pass flakies.Fail = Some (string (codes "fail"))

-- a time-out fails, and a leak passes
abbrev pub timeout_fails : SlowTimeoutResult → Bool
timeout_fails timeouts.Fail = true
timeout_fails timeouts.Pass = false

abbrev pub leak_passes : LeakTimeoutResult → Bool
leak_passes leaks.Pass = true
leak_passes leaks.Fail = false

-- when something is slow, where that is usual after such a period; what is as usual is left out
unfoldable pub slow_fields : ℕ → SlowTimeout → KeyedFields
slow_fields period slow =
    (codes "grace", number_unless usual_slow.grace slow.grace)
    ∷ (codes "on_timeout", timeout_result_word slow.on_timeout)
    ∷ (codes "period", number_unless period slow.period)
    ∷ (codes "terminate_after", option_map count slow.terminate_after)
    ∷ []

abbrev pub is_usual_slow : ℕ → SlowTimeout → Bool
is_usual_slow period slow =
    is_none slow.terminate_after && timeout_fails slow.on_timeout && nat_eq slow.grace usual_slow.grace
    && nat_eq slow.period period

abbrev pub slow_object : ℕ → SlowTimeout → Option Data
slow_object period slow = if is_usual_slow period slow then None else Some (object_of (slow_fields period slow))

-- how long open descriptors are waited for
unfoldable pub leak_fields : LeakTimeout → KeyedFields
leak_fields leak =
    (codes "period", number_unless usual_leak.period leak.period) ∷ (codes "result", leak_result_word leak.result) ∷ []

abbrev pub is_usual_leak : LeakTimeout → Bool
is_usual_leak leak = leak_passes leak.result && nat_eq leak.period usual_leak.period

abbrev pub leak_object : LeakTimeout → Option Data
leak_object leak = if is_usual_leak leak then None else Some (object_of (leak_fields leak))

-- how often a test is tried again
unfoldable pub retries_fields : RetryPolicy → KeyedFields
retries_fields (Fixed n delay jitter) =
    (codes "count", Some (count n)) ∷ (codes "delay", number_unless 0 delay) ∷ (codes "jitter", if_true jitter) ∷ []
retries_fields (Exponential n delay jitter max_delay) =
    (codes "backoff", Some (string (codes "exponential")))
    ∷ (codes "count", Some (count n))
    ∷ (codes "delay", number_unless 0 delay)
    ∷ (codes "jitter", if_true jitter)
    ∷ (codes "max_delay", option_map count max_delay)
    ∷ []

abbrev pub retries_object : RetryPolicy → Data
retries_object retries = object_of (retries_fields retries)

-- it is never tried again
abbrev pub is_no_retries : RetryPolicy → Bool
is_no_retries (Fixed n delay jitter) = not jitter && nat_eq n 0 && nat_eq delay 0
is_no_retries (Exponential n delay jitter max_delay) = false

abbrev pub retries_if_any : RetryPolicy → Option Data
retries_if_any retries = if is_no_retries retries then None else Some (retries_object retries)

-- the platform, left out where it is the target's, and the priority, left out where it is 0
abbrev pub platform_word : BuildPlatform → Option Data
platform_word platforms.Target = None
platform_word platforms.Host = Some (string (codes "host"))

abbrev pub priority_unless_0 : ℤ → Option Data
priority_unless_0 (pos zero) = None
priority_unless_0 (pos (suc n)) = Some (signed (pos (suc n)))
priority_unless_0 (negsuc n) = Some (signed (negsuc n))

-- a test: what it is, what it is tied to, how it runs, and where it stands
unfoldable pub name_fields : PlanTest → KeyedFields
name_fields test =
    (codes "binary", Some (string test.id.binary))
    ∷ (codes "command", Some (texts test.command))
    ∷ (codes "name", Some (string test.id.name))
    ∷ []

unfoldable pub tie_fields : PlanTest → KeyedFields
tie_fields test =
    (codes "group", option_map string test.group)
    ∷ (codes "scripts", list_if_any count test.scripts)
    ∷ (codes "skip", option_map string test.skip)
    ∷ []

unfoldable pub trial_fields : PlanTest → KeyedFields
trial_fields test =
    (codes "flaky", flaky_unless_pass test.flaky)
    ∷ (codes "leak", leak_object test.leak)
    ∷ (codes "retries", retries_if_any test.retries)
    ∷ (codes "slow", slow_object usual_slow.period test.slow)
    ∷ []

unfoldable pub rank_fields : PlanTest → KeyedFields
rank_fields test =
    (codes "platform", platform_word test.platform)
    ∷ (codes "priority", priority_unless_0 test.priority)
    ∷ (codes "weight", number_unless 1 test.weight)
    ∷ []

abbrev pub plan_test_fields : PlanTest → KeyedFields
plan_test_fields test = name_fields test ++ tie_fields test ++ trial_fields test ++ rank_fields test

abbrev pub plan_test_object : PlanTest → Data
plan_test_object test = object_of (plan_test_fields test)

-- a group
unfoldable pub group_fields : Group → KeyedFields
group_fields group = (codes "limit", Some (count group.limit)) ∷ (codes "name", Some (string group.name)) ∷ []

abbrev pub group_object : Group → Data
group_object group = object_of (group_fields group)

-- a setup script: what it is, and how it runs
unfoldable pub script_word_fields : PlanScript → KeyedFields
script_word_fields script =
    (codes "command", Some (texts script.command))
    ∷ (codes "env_path", Some (string script.env_path))
    ∷ (codes "id", Some (string script.id))
    ∷ []

unfoldable pub script_way_fields : PlanScript → KeyedFields
script_way_fields script =
    (codes "capture_stderr", if_false script.capture_stderr)
    ∷ (codes "capture_stdout", if_false script.capture_stdout)
    ∷ (codes "leak", leak_object script.leak)
    ∷ (codes "slow", slow_object usual_script_slow.period script.slow)
    ∷ []

abbrev pub plan_script_fields : PlanScript → KeyedFields
plan_script_fields script = script_word_fields script ++ script_way_fields script

abbrev pub script_object : PlanScript → Data
script_object script = object_of (plan_script_fields script)

-- the word of a way of capture
abbrev pub capture_word : CaptureStrategy → List ℕ
capture_word capture.None = codes "none"
capture_word capture.Split = codes "split"
capture_word capture.Combined = codes "combined"

-- after how many failures no test starts any more; left out where all tests run
abbrev pub mode_word : TerminateMode → List ℕ
mode_word modes.Wait = codes "wait"
mode_word modes.Immediate = codes "immediate"

unfoldable pub limit_fields : ℕ → TerminateMode → KeyedFields
limit_fields n mode = (codes "count", Some (count n)) ∷ (codes "mode", Some (string (mode_word mode))) ∷ []

abbrev pub max_fail_object : MaxFail → Option Data
max_fail_object All = None
max_fail_object (Count n mode) = Some (object_of (limit_fields n mode))

abbrev pub flaky_result_word : FlakyResult → Data
flaky_result_word flaky = string (flaky_word flaky)

-- a plan: the words of the call, the run, how much may run, how often, what becomes of failures, and what is to be run
unfoldable pub call_fields : SaidPlan → KeyedFields
call_fields plan =
    (codes "args", Some (texts plan.args))
    ∷ (codes "profile", Some (string plan.profile))
    ∷ (codes "workspace_root", Some (string plan.workspace_root))
    ∷ []

unfoldable pub run_fields : SaidPlan → KeyedFields
run_fields plan =
    (codes "nextest_version", Some (string (codes "0.9.129")))
    ∷ (codes "run_id", Some (string (hyphenated_text lower plan.run_id)))
    ∷ (codes "version", Some (count 2))
    ∷ []

unfoldable pub way_fields : SaidPlan → KeyedFields
way_fields plan =
    (codes "capture", Some (string (capture_word plan.capture)))
    ∷ (codes "global_timeout", option_map count plan.global_timeout)
    ∷ (codes "threads", Some (count plan.threads))
    ∷ []

unfoldable pub stress_fields : SaidPlan → KeyedFields
stress_fields plan = (codes "stress", option_map condition_data plan.stress) ∷ []

unfoldable pub failure_fields : SaidPlan → KeyedFields
failure_fields plan =
    (codes "flaky_result", option_map flaky_result_word plan.flaky_result)
    ∷ (codes "max_fail", max_fail_object plan.max_fail)
    ∷ (codes "retries", option_map retries_object plan.retries)
    ∷ []

unfoldable pub list_fields : SaidPlan → KeyedFields
list_fields plan =
    (codes "groups", list_if_any group_object plan.groups)
    ∷ (codes "scripts", list_if_any script_object plan.scripts)
    ∷ (codes "tests", Some (array_of plan_test_object plan.tests))
    ∷ []

abbrev pub said_plan_fields : SaidPlan → KeyedFields
said_plan_fields plan =
    call_fields plan ++ run_fields plan ++ way_fields plan ++ stress_fields plan ++ failure_fields plan
    ++ list_fields plan

-- its text
abbrev pub plan_text : SaidPlan → List ℕ
plan_text plan = compact_text (object_of (said_plan_fields plan))
