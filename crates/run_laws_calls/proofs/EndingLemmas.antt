-- A sub-run ends as its events say.
use Rattle.std.proofs.Common.{◌≡◌, ℕ, nat_lt, List, count_by, Bool, true, false, not, ◌==◌, ◌+◌, if◌then◌else◌}
use Rattle.std.proofs.Common.{Option, Some, None, refl, ap, sym, ◌∙◌}
use Rattle.std.proofs.lemmas.List.Elements.{All-contains}
use Rattle.std.specs.List.{All, list_any}
use Rattle.run_events.specs.Outcome.{failed_count, has_failed_script, is_above_failure, outcome_of, summary}
use Rattle.run_events.specs.declared.cancel.CancelReason.{CancelReason}
use Rattle.run_events.specs.declared.cancel.CancelReason.TheVariants as reasons
use Rattle.run_events.specs.declared.events.ReporterEvent.{ReporterEvent}
use Rattle.run_events.specs.declared.outcome.FinalRunStats.TheVariants as finals
use Rattle.run_events.specs.declared.outcome.RunOutcome.{RunOutcome}
use Rattle.run_events.specs.declared.outcome.RunOutcome.TheVariants as outcomes
use Rattle.run_events.specs.declared.outcome.RunStep.{RunStep}
use Rattle.run_events.specs.declared.outcome.RunStep.TheVariants as steps
use Rattle.run_events.specs.declared.settings.Settings.{Settings}
use Rattle.run_events.specs.declared.stats.RunStats.{RunStats}
use Rattle.run_model.specs.declared.entry.Entry.{Entry}
use Rattle.run_model.specs.declared.happening.Happening.{Happening}
use Rattle.run_model.specs.Journal.{IsLegalBackward, history, outcome}
use Rattle.run_model.specs.SubRuns.{summary_of}
use Rattle.run_model.specs.Words.{ended_runs, is_over, reason, skipped, stats, sub_run, told}
use Rattle.run_laws.proofs.told.FateLemmas.{over_ended}
use Rattle.run_laws_calls.specs.Endings.{ending_told, failure_at, is_cut_short}
use Rattle.run_laws_calls.specs.Stops.{AreCausesTold, latest_reason}
use Rattle.run_laws_calls.specs.Success.{fails_script, fails_test, finishes_script, finishes_test}
use Rattle.run_laws_calls.proofs.AnyLemmas.{any-count}
use Rattle.run_laws_calls.proofs.OutcomeLemmas.{outcome-over}
use Rattle.run_laws_calls.proofs.SuccessLemmas.{IsCounted, counted, reason_is}
use Rattle.run_laws_calls.proofs.SummaryLemmas.{least-some, not-none, summed}
use Rattle.run_laws_calls.proofs.ToldLemmas.{causes_told, each_ended}
use Rattle.run_laws_calls.proofs.WholeLemmas.{one_run}

-- the outcome by what came of the scripts and of the tests, and whether the run was cut short
abbrev ended_by : Bool → Bool → Bool → Bool → Bool → Bool → RunOutcome
ended_by cut script unfinished failed left some =
    if script then failure_at steps.SetupScript cut
    else if unfinished then outcomes.Cancelled steps.SetupScript
    else if failed then failure_at steps.Test cut
    else if left then outcomes.Cancelled steps.Test
    else if some then outcomes.Success
    else outcomes.NoTestsRun

failed-outcome : (b : Bool) (step : RunStep) (why : Option CancelReason)
    → outcome_of (if b then finals.Cancelled why step else finals.Failed step) ≡ failure_at step b
failed-outcome true step why = refl
failed-outcome false step why = refl

summed-outcome : (a b c d e : Bool) (why : Option CancelReason)
    → outcome_of (summed a b c d e why) ≡ ended_by (is_above_failure why) a b c d (not e)
summed-outcome true b c d e why = failed-outcome (is_above_failure why) steps.SetupScript why
summed-outcome false true c d e why = refl
summed-outcome false false true d e why = failed-outcome (is_above_failure why) steps.Test why
summed-outcome false false false true e why = refl
summed-outcome false false false false true why = refl
summed-outcome false false false false false why = refl

summary-outcome : (s : RunStats) → outcome_of (summary s)
    ≡ ended_by (is_above_failure s.cancel_reason)
    (nat_lt 0 (s.setup_scripts_failed + s.setup_scripts_exec_failed + s.setup_scripts_timed_out))
    (nat_lt s.setup_scripts_finished_count s.setup_scripts_initial_count)
    (nat_lt 0 (s.failed + s.exec_failed + s.failed_timed_out)) (nat_lt s.finished_count s.initial_run_count)
    (nat_lt 0 s.finished_count)
unfolding summary
summary-outcome s =
    summed-outcome (has_failed_script s) (nat_lt s.setup_scripts_finished_count s.setup_scripts_initial_count)
    (nat_lt 0 (failed_count s)) (nat_lt s.finished_count s.initial_run_count) (s.finished_count == 0) s.cancel_reason
    ∙ ap (λ b. ended_by (is_above_failure s.cancel_reason) (has_failed_script s)
    (nat_lt s.setup_scripts_finished_count s.setup_scripts_initial_count) b
    (nat_lt s.finished_count s.initial_run_count) (not (s.finished_count == 0)))
    (least-some (s.failed + s.exec_failed + s.failed_timed_out))
    ∙ ap (ended_by (is_above_failure s.cancel_reason) (has_failed_script s)
    (nat_lt s.setup_scripts_finished_count s.setup_scripts_initial_count)
    (nat_lt 0 (s.failed + s.exec_failed + s.failed_timed_out)) (nat_lt s.finished_count s.initial_run_count))
    (not-none s.finished_count)

cut_short-is : (why : Option CancelReason) → is_above_failure why ≡ is_cut_short why
cut_short-is None = refl
cut_short-is (Some reasons.SetupScriptFailure) = refl
cut_short-is (Some reasons.TestFailure) = refl
cut_short-is (Some reasons.ReportError) = refl
cut_short-is (Some reasons.GlobalTimeout) = refl
cut_short-is (Some reasons.TestFailureImmediate) = refl
cut_short-is (Some reasons.Signal) = refl
cut_short-is (Some reasons.Interrupt) = refl
cut_short-is (Some reasons.SecondSignal) = refl

ended-same : {a b c d e f : Bool} {u v w x y z : Bool} → a ≡ u → b ≡ v → c ≡ w → d ≡ x → e ≡ y → f ≡ z
    → ended_by a b c d e f ≡ ended_by u v w x y z
ended-same a b c d e f i = ended_by (a i) (b i) (c i) (d i) (e i) (f i)

below-same : {a b c d : ℕ} → a ≡ b → c ≡ d → nat_lt a c ≡ nat_lt b d
below-same a c i = nat_lt (a i) (c i)

ending-counted : (p : Settings) (s : RunStats) (events : List ReporterEvent) → IsCounted p s events
    → s.cancel_reason ≡ latest_reason events → outcome_of (summary s) ≡ ending_told p events
ending-counted p s events of why =
    summary-outcome s
    ∙ ended-same (ap is_above_failure why ∙ cut_short-is (latest_reason events))
    (ap (nat_lt 0) of.scripts_bad ∙ any-count fails_script events) (below-same of.scripts of.scripts_initial)
    (ap (nat_lt 0) of.bad ∙ any-count fails_test events) (below-same of.tests of.initial)
    (ap (nat_lt 0) of.tests ∙ any-count finishes_test events)

-- so does each sub-run
abbrev EndsSo : Settings → List Happening → Type 0
EndsSo p run = outcome_of (summary_of p run) ≡ ending_told p (told run)

ends_so : (p : Settings) (backward : List Entry) → IsLegalBackward p backward → EndsSo p (sub_run (history p backward))
ends_so p backward legal =
    ending-counted p (stats p run) (told run) (counted p (reason run) (skipped run) (told run))
    (reason_is p run ∙ causes.latest)
  where
    run : List Happening
    run = sub_run (history p backward)

    causes : AreCausesTold run
    causes = causes_told p backward legal

pub each_ends_so : (p : Settings) (backward : List Entry) → IsLegalBackward p backward
    → All (EndsSo p) (ended_runs (history p backward))
each_ends_so p backward legal = each_ended (EndsSo p) p (ends_so p) backward legal

-- and a run that is over, and no stress run
pub run_ends_so : (p : Settings) (backward : List Entry) → p.stress ≡ None → IsLegalBackward p backward
    → is_over (history p backward) ≡ true
    → outcome p (history p backward) ≡ Some (ending_told p (told (history p backward)))
run_ends_so p backward single legal over =
    outcome-over p backward single legal over
    ∙ ap Some (All-contains (EndsSo p) (ended_runs (history p backward)) (sub_run (history p backward))
    (each_ends_so p backward legal) (over_ended p backward legal over))
    ∙ ap (λ events. Some (ending_told p events)) (sym (one_run p backward single legal).same.told)
