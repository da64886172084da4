-- Of which unit an event tells.
use Rattle.std.specs.Prelude.{ℕ, ◌≡◌, ◌≤◌, ◌<◌, List, false, Option, Some, None, IfSome, is_some}
use Rattle.std.specs.List.{All, list_any}
use Rattle.run_events.specs.declared.events.ReporterEvent.{ReporterEvent}
use Rattle.run_events.specs.declared.events.ReporterEvent.TheVariants.{Test}
use Rattle.run_events.specs.declared.events.TestEventKind.{TestEventKind}
use Rattle.run_events.specs.declared.events.TestEventKind.TheVariants.{SetupScriptStarted, SetupScriptSlow}
use Rattle.run_events.specs.declared.events.TestEventKind.TheVariants.{SetupScriptFinished, TestStarted, TestSlow}
use Rattle.run_events.specs.declared.events.TestEventKind.TheVariants.{TestAttemptFailedWillRetry, TestRetryStarted}
use Rattle.run_events.specs.declared.events.TestEventKind.TheVariants.{TestFinished, TestSkipped}
use Rattle.run_events.specs.declared.settings.Settings.{Settings}
use Rattle.run_model.specs.declared.entry.Entry.{Entry}
use Rattle.run_model.specs.Admission.{scripts_in, units_in}
use Rattle.run_model.specs.Journal.{IsLegal, past_of}
use Rattle.run_model.specs.Words.{told}

-- the script of which an event tells, if it tells of one, and the test
abbrev pub script_number_in : TestEventKind → Option ℕ
script_number_in (SetupScriptStarted event) = Some event.script.unit
script_number_in (SetupScriptSlow event) = Some event.script.unit
script_number_in (SetupScriptFinished event) = Some event.script.unit
script_number_in _ = None

abbrev pub test_number_in : TestEventKind → Option ℕ
test_number_in (TestStarted event) = Some event.start.test.unit
test_number_in (TestSlow event) = Some event.test.unit
test_number_in (TestAttemptFailedWillRetry event) = Some event.failed.test.unit
test_number_in (TestRetryStarted event) = Some event.retry.start.test.unit
test_number_in (TestFinished event) = Some event.finish.test.unit
test_number_in (TestSkipped event) = Some event.test.unit
test_number_in _ = None

abbrev pub script_number : ReporterEvent → Option ℕ
script_number (Test event) = script_number_in event.kind
script_number _ = None

abbrev pub test_number : ReporterEvent → Option ℕ
test_number (Test event) = test_number_in event.kind
test_number _ = None

-- an event of a script has the number of one of the plan, and one of a test that of a test: scripts are numbered first
pub record HasNumber (p : Settings) (e : ReporterEvent) : Type 0 where
  pub script : IfSome (script_number e) (λ k. k < scripts_in p)
  pub test : IfSome (test_number e) (λ k. (scripts_in p ≤ k) × (k < units_in p))

-- that holds of each event that was told, after every legal journal
abbrev pub EventsAreNumbered : Type 0
EventsAreNumbered = (p : Settings) (journal : List Entry) → IsLegal p journal
    → All (HasNumber p) (told (past_of p journal))

-- so no event tells of a script where the plan has none
abbrev pub NoScriptIsTold : Type 0
NoScriptIsTold = (p : Settings) (journal : List Entry) → IsLegal p journal → scripts_in p ≡ 0
    → list_any (λ e. is_some (script_number e)) (told (past_of p journal)) ≡ false
