-- How a sub-run ends, by its events.
use Rattle.std.specs.Prelude.{ℕ, ◌≡◌, List, count_by, Bool, true, false, nat_lt, if◌then◌else◌, Option, None, Some}
use Rattle.std.specs.List.{All, list_any}
use Rattle.run_events.specs.Cancel.{rank}
use Rattle.run_events.specs.Outcome.{outcome_of}
use Rattle.run_events.specs.declared.cancel.CancelReason.{CancelReason}
use Rattle.run_events.specs.declared.cancel.CancelReason.TheVariants.{TestFailure}
use Rattle.run_events.specs.declared.events.ReporterEvent.{ReporterEvent}
use Rattle.run_events.specs.declared.outcome.RunOutcome.{RunOutcome}
use Rattle.run_events.specs.declared.outcome.RunOutcome.TheVariants.{Cancelled, Failed, NoTestsRun, Success}
use Rattle.run_events.specs.declared.outcome.RunStep.{RunStep}
use Rattle.run_events.specs.declared.outcome.RunStep.TheVariants as steps
use Rattle.run_events.specs.declared.settings.Settings.{Settings}
use Rattle.run_model.specs.declared.entry.Entry.{Entry}
use Rattle.run_model.specs.declared.happening.Happening.{Happening}
use Rattle.run_model.specs.Admission.{matched_in, scripts_in}
use Rattle.run_model.specs.Journal.{IsLegal, outcome, past_of}
use Rattle.run_model.specs.SubRuns.{summary_of}
use Rattle.run_model.specs.Words.{ended_runs, is_over, told}
use Rattle.run_laws_calls.specs.Stops.{latest_reason}
use Rattle.run_laws_calls.specs.Success.{fails_script, fails_test, finishes_script, finishes_test}

-- whether a run was cancelled for a reason that ranks above the failure of a test
abbrev pub is_cut_short : Option CancelReason → Bool
is_cut_short None = false
is_cut_short (Some reason) = nat_lt (rank TestFailure) (rank reason)

-- a failure at a step: the run is said to be cancelled there where it was cut short
abbrev pub failure_at : RunStep → Bool → RunOutcome
failure_at step cut_short = if cut_short then Cancelled step else Failed step

-- the first that holds: a script failed, not each script finished, a test failed, not each test that matches finished,
-- some test finished, or none did
abbrev pub ending_told : Settings → List ReporterEvent → RunOutcome
ending_told p events =
    if list_any fails_script events then failure_at steps.SetupScript (is_cut_short (latest_reason events))
    else if nat_lt (count_by finishes_script events) (scripts_in p) then Cancelled steps.SetupScript
    else if list_any fails_test events then failure_at steps.Test (is_cut_short (latest_reason events))
    else if nat_lt (count_by finishes_test events) (matched_in p) then Cancelled steps.Test
    else if list_any finishes_test events then Success
    else NoTestsRun

-- that is the outcome of each sub-run of a legal journal that has ended
abbrev pub SubRunsEndSo : Type 0
SubRunsEndSo = (p : Settings) (journal : List Entry) → IsLegal p journal
    → All (λ run. outcome_of (summary_of p run) ≡ ending_told p (told run)) (ended_runs (past_of p journal))

-- and of a run that is over, and no stress run
abbrev pub RunsEndSo : Type 0
RunsEndSo = (p : Settings) (journal : List Entry) → p.stress ≡ None → IsLegal p journal
    → is_over (past_of p journal) ≡ true
    → outcome p (past_of p journal) ≡ Some (ending_told p (told (past_of p journal)))
