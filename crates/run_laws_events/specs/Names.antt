-- Whom an event names, and what it says of a test's own settings, by the plan.
use Rattle.std.specs.Prelude.{⊤, ℕ, ◌≡◌, ◌+◌, ◌-◌, List, length, not, ◌&&◌, if◌then◌else◌, Option, Some, None}
use Rattle.std.specs.Prelude.{option_and_then, option_map, slice_get}
use Rattle.std.specs.List.{All}
use Rattle.run_events.specs.declared.message.ScriptUnit.{ScriptUnit}
use Rattle.run_events.specs.declared.message.TestUnit.{TestUnit}
use Rattle.run_events.specs.declared.message.TestFinish.{TestFinish}
use Rattle.run_events.specs.declared.message.TestSkip.{TestSkip}
use Rattle.run_events.specs.declared.message.TestSlow.{TestSlow as SlowTest}
use Rattle.run_events.specs.declared.plan.PlanScript.{PlanScript}
use Rattle.run_events.specs.declared.plan.PlanTest.{PlanTest}
use Rattle.run_events.specs.declared.result.FlakyResult.{FlakyResult}
use Rattle.run_events.specs.declared.retry_policy.RetryPolicy.{RetryPolicy}
use Rattle.run_events.specs.declared.settings.Settings.{Settings}
use Rattle.run_events.specs.declared.events.ReporterEvent.{ReporterEvent}
use Rattle.run_events.specs.declared.events.ReporterEvent.TheVariants.{Test}
use Rattle.run_events.specs.declared.events.TestEventKind.{TestEventKind}
use Rattle.run_events.specs.declared.events.TestEventKind.TheVariants.{SetupScriptStarted, SetupScriptSlow}
use Rattle.run_events.specs.declared.events.TestEventKind.TheVariants.{SetupScriptFinished, TestStarted, TestSlow}
use Rattle.run_events.specs.declared.events.TestEventKind.TheVariants.{TestAttemptFailedWillRetry, TestRetryStarted}
use Rattle.run_events.specs.declared.events.TestEventKind.TheVariants.{TestFinished, TestSkipped}
use Rattle.run_events.specs.declared.events.TestEventKind.TheVariants.{InfoResponse as InfoAnswer}
use Rattle.run_events.specs.declared.info.InfoSubject.{InfoSubject}
use Rattle.run_events.specs.declared.info.InfoSubject.TheVariants as subjects
use Rattle.run_model.specs.declared.entry.Entry.{Entry}
use Rattle.run_model.specs.Admission.{is_script, scripts_in}
use Rattle.run_model.specs.Backoff.{retry_count}
use Rattle.run_model.specs.Journal.{IsLegal, past_of}
use Rattle.run_model.specs.SubRuns.{stress_index}
use Rattle.run_model.specs.Words.{sub_run, told}
use Rattle.run_events.specs.declared.stress.StressIndex.{StressIndex}

-- the test of the plan that the unit of this number is: scripts are numbered first
abbrev pub test_of_unit : Settings → ℕ → Option PlanTest
test_of_unit p k = if is_script p k then None else slice_get p.plan.tests (k - scripts_in p)

-- a test of the plan as the events of such a sub-run of a stress run name it, if it is one
abbrev pub test_named : Option StressIndex → ℕ → PlanTest → TestUnit
test_named index k test = record { unit = k; id = test.id; stress_index = index }

-- and a script
abbrev pub script_named : Settings → Option StressIndex → ℕ → PlanScript → ScriptUnit
script_named p index k script = record {
  unit = k;
  id = script.id;
  index = k;
  total = length p.plan.scripts;
  no_capture = not (script.capture_stdout && script.capture_stderr);
  stress_index = index;
}

-- a test, and a script, is named as the plan has the unit of its number, and as one of this sub-run of a stress run
abbrev pub IsTestNamed : Settings → Option StressIndex → TestUnit → Type 0
IsTestNamed p index unit = option_map (test_named index unit.unit) (test_of_unit p unit.unit) ≡ Some unit

abbrev pub IsScriptNamed : Settings → Option StressIndex → ScriptUnit → Type 0
IsScriptNamed p index unit =
    option_map (script_named p index unit.unit) (slice_get p.plan.scripts unit.unit) ≡ Some unit

-- so is a unit that answers
abbrev pub IsSubjectNamed : Settings → Option StressIndex → InfoSubject → Type 0
IsSubjectNamed p index (subjects.Test test attempt attempts) = IsTestNamed p index test
IsSubjectNamed p index (subjects.Script script) = IsScriptNamed p index script

-- a test is skipped for the reason that the plan gives
abbrev pub HasReason : Settings → TestSkip → Type 0
HasReason p skip = option_and_then (λ test. test.skip) (test_of_unit p skip.test.unit) ≡ Some skip.reason

-- an event of a unit names the plan's own, and this sub-run
abbrev pub NamesThePlanIn : Settings → Option StressIndex → TestEventKind → Type 0
NamesThePlanIn p index (SetupScriptStarted start) = IsScriptNamed p index start.script
NamesThePlanIn p index (SetupScriptSlow slow) = IsScriptNamed p index slow.script
NamesThePlanIn p index (SetupScriptFinished finish) = IsScriptNamed p index finish.script
NamesThePlanIn p index (TestStarted event) = IsTestNamed p index event.start.test
NamesThePlanIn p index (TestSlow slow) = IsTestNamed p index slow.test
NamesThePlanIn p index (TestAttemptFailedWillRetry event) = IsTestNamed p index event.failed.test
NamesThePlanIn p index (TestRetryStarted event) = IsTestNamed p index event.retry.start.test
NamesThePlanIn p index (TestFinished event) = IsTestNamed p index event.finish.test
NamesThePlanIn p index (TestSkipped skip) = IsTestNamed p index skip.test × HasReason p skip
NamesThePlanIn p index (InfoAnswer answer) = IsSubjectNamed p index answer.response.subject
NamesThePlanIn p index _ = ⊤

abbrev pub NamesThePlan : Settings → Option StressIndex → ReporterEvent → Type 0
NamesThePlan p index (Test event) = NamesThePlanIn p index event.kind
NamesThePlan p index _ = ⊤

-- that holds of each event told in the newest sub-run after every legal journal: it names that very sub-run
abbrev pub EventsNameThePlan : Type 0
EventsNameThePlan = (p : Settings) (journal : List Entry) → IsLegal p journal
    → All (NamesThePlan p (stress_index p (past_of p journal))) (told (sub_run (past_of p journal)))

-- how often a test of the plan is tried again: as often as all tests, where that is set, and else as it says itself
abbrev pub planned_retries : Option RetryPolicy → PlanTest → ℕ
planned_retries (Some retries) test = retry_count retries
planned_retries None test = retry_count test.retries

-- how many attempts it has at most
abbrev pub planned_attempts : Settings → PlanTest → ℕ
planned_attempts p test = planned_retries p.retries test + 1

-- what a pass after a failed attempt of it counts as: as of all tests, where that is set, and else as it says itself
abbrev pub planned_flaky : Option FlakyResult → PlanTest → FlakyResult
planned_flaky (Some flaky) test = flaky
planned_flaky None test = test.flaky

-- a slow report says how many attempts the plan's test has
abbrev pub SaysAttempts : Settings → SlowTest → Type 0
SaysAttempts p slow = option_map (planned_attempts p) (test_of_unit p slow.test.unit) ≡ Some slow.attempts

abbrev pub SlowSaysAttemptsIn : Settings → TestEventKind → Type 0
SlowSaysAttemptsIn p (TestSlow slow) = SaysAttempts p slow
SlowSaysAttemptsIn p _ = ⊤

abbrev pub SlowSaysAttempts : Settings → ReporterEvent → Type 0
SlowSaysAttempts p (Test event) = SlowSaysAttemptsIn p event.kind
SlowSaysAttempts p _ = ⊤

-- that holds of each event told in the newest sub-run after every legal journal
abbrev pub SlowReportsSayAttempts : Type 0
SlowReportsSayAttempts = (p : Settings) (journal : List Entry) → IsLegal p journal
    → All (SlowSaysAttempts p) (told (sub_run (past_of p journal)))

-- a finish says what a pass after a failed attempt of the plan's test counts as
abbrev pub SaysFlaky : Settings → TestFinish → Type 0
SaysFlaky p finish = option_map (planned_flaky p.flaky_result) (test_of_unit p finish.test.unit) ≡ Some finish.flaky

abbrev pub FinishSaysFlakyIn : Settings → TestEventKind → Type 0
FinishSaysFlakyIn p (TestFinished event) = SaysFlaky p event.finish
FinishSaysFlakyIn p _ = ⊤

abbrev pub FinishSaysFlaky : Settings → ReporterEvent → Type 0
FinishSaysFlaky p (Test event) = FinishSaysFlakyIn p event.kind
FinishSaysFlaky p _ = ⊤

-- that holds of each event told in the newest sub-run after every legal journal
abbrev pub FinishesSayFlaky : Type 0
FinishesSayFlaky = (p : Settings) (journal : List Entry) → IsLegal p journal
    → All (FinishSaysFlaky p) (told (sub_run (past_of p journal)))
