-- The outcome of a run is of what was told.
use Rattle.std.proofs.Common.{◌≡◌, List, [], ◌∷◌, map, Bool, true, false, if◌then◌else◌, Some, None}
use Rattle.std.proofs.Common.{refl, ap, sym, ◌∙◌}
use Rattle.std.specs.List.{All}
use Rattle.std.proofs.lemmas.List.Elements.{All-head, All-tail}
use Rattle.run_events.specs.Outcome.{outcome_of, summary}
use Rattle.run_events.specs.declared.settings.Settings.{Settings}
use Rattle.run_model.specs.declared.entry.Entry.{Entry}
use Rattle.run_model.specs.declared.happening.Happening.{Happening}
use Rattle.run_model.specs.Journal.{IsLegalBackward, history, outcome}
use Rattle.run_model.specs.SubRuns.{outcome_in, outcome_with, summary_of}
use Rattle.run_model.specs.Words.{ended_runs, finished, is_over, skipped, stats, stats_after, sub_run, told}
use Rattle.run_laws.proofs.told.Outcomes.{over_outcome}
use Rattle.run_laws_calls.specs.Outcomes.{counted_told, outcome_told, outcomes_told, summary_told}
use Rattle.run_laws_calls.specs.Stops.{AreCausesTold}
use Rattle.run_laws_calls.proofs.ToldLemmas.{causes_told, each_ended}
use Rattle.run_laws_calls.proofs.WholeLemmas.{one_run}

-- the statistics of a sub-run are those counted over its events, so it ends as these tell
pub stats-run : (p : Settings) (run : List Happening) → AreCausesTold run → stats p run ≡ counted_told p (told run)
stats-run p run causes = ap (λ why. stats_after p why (skipped run) (finished run)) causes.latest

pub summary-run : (p : Settings) (run : List Happening) → AreCausesTold run
    → summary_of p run ≡ summary_told p (told run)
summary-run p run causes = ap summary (stats-run p run causes)

-- and so that of some
outcome-runs : (p : Settings) (runs : List (List Happening)) → All AreCausesTold runs
    → outcome_in p runs ≡ outcomes_told p (map told runs)
outcome-runs p [] all = refl
outcome-runs p (run ∷ earlier) all =
    ap (λ s. Some (outcome_with (outcome_in p earlier) (outcome_of s)))
    (summary-run p run (All-head AreCausesTold run earlier all))
    ∙ ap (λ o. Some (outcome_with o (outcome_told p (told run))))
    (outcome-runs p earlier (All-tail AreCausesTold run earlier all))

pub outcome-told : (p : Settings) (backward : List Entry) → IsLegalBackward p backward
    → outcome p (history p backward)
    ≡ (if is_over (history p backward) then outcomes_told p (map told (ended_runs (history p backward))) else None)
outcome-told p backward legal =
    ap (λ o. if is_over (history p backward) then o else None)
    (outcome-runs p (ended_runs (history p backward)) (each_ended AreCausesTold p (causes_told p) backward legal))

-- where it is no stress run, that of all events
pub outcome-one : (p : Settings) (backward : List Entry) → p.stress ≡ None → IsLegalBackward p backward
    → outcome p (history p backward)
    ≡ (if is_over (history p backward) then Some (outcome_told p (told (history p backward))) else None)
outcome-one p backward single legal =
    outcome-told p backward legal
    ∙ ap (λ runs. if is_over past then outcomes_told p (map told runs) else None)
    (one_run p backward single legal).ended
    ∙ by_over (is_over past)
    ∙ ap (λ events. if is_over past then Some (outcome_told p events) else None)
    (sym (one_run p backward single legal).same.told)
  where
    past : List Happening
    past = history p backward

    by_over : (b : Bool) → (if b then outcomes_told p (map told (if b then sub_run past ∷ [] else [])) else None)
        ≡ (if b then Some (outcome_told p (told (sub_run past))) else None)
    by_over true = refl
    by_over false = refl

-- and that of its one sub-run
pub outcome-over : (p : Settings) (backward : List Entry) → p.stress ≡ None → IsLegalBackward p backward
    → is_over (history p backward) ≡ true
    → outcome p (history p backward) ≡ Some (outcome_of (summary_of p (sub_run (history p backward))))
outcome-over p backward single legal over =
    over_outcome p past over
    ∙ ap (outcome_in p) ((one_run p backward single legal).ended
    ∙ ap (λ b. if b then sub_run past ∷ [] else []) over)
  where
    past : List Happening
    past = history p backward
