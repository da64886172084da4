-- When a run is a success, by what was told.
use Rattle.std.specs.Prelude.{ℕ, ◌≡◌, List, map, length, Bool, true, false, not, ◌&&◌, ◌||◌}
use Rattle.std.specs.Prelude.{nat_lt, if◌then◌else◌, None, Some}
use Rattle.std.specs.List.{All, list_any}
use Rattle.run_events.specs.Outcome.{outcome_of}
use Rattle.run_events.specs.Result.{is_success}
use Rattle.run_events.specs.Stats.{one_if, last_or}
use Rattle.run_events.specs.declared.events.ReporterEvent.{ReporterEvent}
use Rattle.run_events.specs.declared.events.ReporterEvent.TheVariants.{Test}
use Rattle.run_events.specs.declared.events.TestEventKind.{TestEventKind}
use Rattle.run_events.specs.declared.events.TestEventKind.TheVariants.{SetupScriptFinished, TestFinished}
use Rattle.run_events.specs.declared.message.TestFinish.{TestFinish}
use Rattle.run_events.specs.declared.outcome.RunOutcome.{RunOutcome}
use Rattle.run_events.specs.declared.outcome.RunOutcome.TheVariants.{Failed, NoTestsRun, Success}
use Rattle.run_events.specs.declared.outcome.RunStep.TheVariants as steps
use Rattle.run_events.specs.declared.result.ExecuteStatus.{ExecuteStatus}
use Rattle.run_events.specs.declared.result.FlakyResult.{FlakyResult}
use Rattle.run_events.specs.declared.result.FlakyResult.TheVariants as flakies
use Rattle.run_events.specs.declared.settings.Settings.{Settings}
use Rattle.run_model.specs.declared.entry.Entry.{Entry}
use Rattle.run_model.specs.Journal.{IsLegal, outcome, past_of}
use Rattle.run_model.specs.declared.happening.Happening.{Happening}
use Rattle.run_model.specs.SubRuns.{summary_of}
use Rattle.run_model.specs.Words.{ended_runs, is_over, sub_run, told}
use Rattle.run_laws_calls.specs.Counts.{finishes_told, is_to_run}
use Rattle.run_laws_calls.specs.Stops.{tells_cancel}

-- whether a pass after a failed attempt is to be a failure
abbrev pub is_strict : FlakyResult → Bool
is_strict flakies.Pass = false
is_strict flakies.Fail = true

-- whether the last of some attempts passed
abbrev pub has_last_passed : List ExecuteStatus → Bool
has_last_passed statuses = last_or false (map (λ s. is_success s.result) statuses)

-- whether a finished test failed: its last attempt did, or it was not its first where that is to be a failure
abbrev pub is_failure : TestFinish → Bool
is_failure finish =
    not (has_last_passed finish.statuses) || (is_strict finish.flaky && nat_lt 1 (length finish.statuses))

-- whether an event tells that a script finished and failed, and whether a test did
abbrev pub fails_script_in : TestEventKind → Bool
fails_script_in (SetupScriptFinished event) = not (is_success event.status.result)
fails_script_in _ = false

abbrev pub fails_script : ReporterEvent → Bool
fails_script (Test event) = fails_script_in event.kind
fails_script _ = false

abbrev pub fails_test_in : TestEventKind → Bool
fails_test_in (TestFinished event) = is_failure event.finish
fails_test_in _ = false

abbrev pub fails_test : ReporterEvent → Bool
fails_test (Test event) = fails_test_in event.kind
fails_test _ = false

-- whether an event tells the finish of a script, and whether that of a test
abbrev pub finishes_script_in : TestEventKind → Bool
finishes_script_in (SetupScriptFinished event) = true
finishes_script_in _ = false

abbrev pub finishes_script : ReporterEvent → Bool
finishes_script (Test event) = finishes_script_in event.kind
finishes_script _ = false

abbrev pub finishes_test_in : TestEventKind → Bool
finishes_test_in (TestFinished event) = true
finishes_test_in _ = false

abbrev pub finishes_test : ReporterEvent → Bool
finishes_test (Test event) = finishes_test_in event.kind
finishes_test _ = false

-- some test was told finished, each script and each test that matches just once, and none of them failed
pub record HaveAllPassed (p : Settings) (events : List ReporterEvent) : Type 0 where
  pub some : list_any finishes_test events ≡ true
  pub each : (k : ℕ) → finishes_told k events ≡ one_if (is_to_run p k)
  pub scripts_passed : list_any fails_script events ≡ false
  pub tests_passed : list_any fails_test events ≡ false

-- a sub-run is a success exactly where its events told that
pub record IsSuccessOfAll (p : Settings) (run : List Happening) : Type 0 where
  pub only : outcome_of (summary_of p run) ≡ Success → HaveAllPassed p (told run)
  pub always : HaveAllPassed p (told run) → outcome_of (summary_of p run) ≡ Success

-- that holds of each sub-run of a legal journal that has ended
abbrev pub SuccessIsOfAll : Type 0
SuccessIsOfAll = (p : Settings) (journal : List Entry) → IsLegal p journal
    → All (IsSuccessOfAll p) (ended_runs (past_of p journal))

-- so where the run is over, and no stress run, it is a success exactly where that was told
pub record IsRunSuccess (p : Settings) (past : List Happening) : Type 0 where
  pub only : outcome p past ≡ Some Success → HaveAllPassed p (told past)
  pub always : HaveAllPassed p (told past) → outcome p past ≡ Some Success

abbrev pub OneSuccessIsOfAll : Type 0
OneSuccessIsOfAll = (p : Settings) (journal : List Entry) → p.stress ≡ None → IsLegal p journal
    → is_over (past_of p journal) ≡ true → IsRunSuccess p (past_of p journal)

-- the outcome that events tell where none tells that the run is cancelled
abbrev pub outcome_uncancelled : List ReporterEvent → RunOutcome
outcome_uncancelled events =
    if list_any fails_test events then Failed steps.Test
    else if list_any finishes_test events then Success
    else NoTestsRun

-- where no event of the newest sub-run of a legal journal told that the run is cancelled, none told that a script
-- failed
abbrev pub FailedScriptsCancel : Type 0
FailedScriptsCancel = (p : Settings) (journal : List Entry) → IsLegal p journal
    → list_any tells_cancel (told (sub_run (past_of p journal))) ≡ false
    → list_any fails_script (told (sub_run (past_of p journal))) ≡ false

-- that is the outcome of each sub-run that has ended, and in which no event told that
abbrev pub EndsAsTold : Settings → List Happening → Type 0
EndsAsTold p run =
    list_any tells_cancel (told run) ≡ false → outcome_of (summary_of p run) ≡ outcome_uncancelled (told run)

abbrev pub UncancelledOutcomes : Type 0
UncancelledOutcomes = (p : Settings) (journal : List Entry) → IsLegal p journal
    → All (EndsAsTold p) (ended_runs (past_of p journal))

-- so it is the outcome of a run that is over, and no stress run, where no event told that
abbrev pub OneUncancelledOutcome : Type 0
OneUncancelledOutcome = (p : Settings) (journal : List Entry) → p.stress ≡ None → IsLegal p journal
    → is_over (past_of p journal) ≡ true → list_any tells_cancel (told (past_of p journal)) ≡ false
    → outcome p (past_of p journal) ≡ Some (outcome_uncancelled (told (past_of p journal)))
