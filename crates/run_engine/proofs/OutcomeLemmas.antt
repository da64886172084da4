-- A run that is over has an outcome.
use Rattle.std.proofs.Common.{◌≡◌, List, [], ◌∷◌, reverse, Bool, true, false, Some, None, refl, sym, ◌∙◌, arith}
use Rattle.std.specs.List.{Contains}
use Rattle.run_events.specs.Outcome.{outcome_of}
use Rattle.run_events.specs.declared.settings.Settings.{Settings}
use Rattle.run_events.specs.declared.outcome.RunOutcome.{RunOutcome}
use Rattle.run_model.specs.declared.entry.Entry.{Entry}
use Rattle.run_model.specs.declared.happening.Happening.{Happening}
use Rattle.run_model.specs.SubRuns.{outcome_in, outcome_with, summary_of}
use Rattle.run_model.specs.Words.{is_over, sub_run, ended_runs}
use Rattle.run_model.specs.Journal.{past_of, IsLegal, outcome}
use Rattle.run_laws.proofs.told.Outcomes.{over_outcome}
use Rattle.run_laws.proofs.told.FateLemmas.{over_ended}

-- sub-runs, of which this is one, have an outcome
some_outcome : (p : Settings) (runs : List (List Happening)) (run : List Happening) → Contains runs run
    → (o : RunOutcome) × (outcome_in p runs ≡ Some o)
some_outcome p [] run h = absurd (omega (arith, h.1))
some_outcome p (last ∷ earlier) run h = (outcome_with (outcome_in p earlier) (outcome_of (summary_of p last)), refl)

pub has_outcome : (p : Settings) (journal : List Entry) → IsLegal p journal → is_over (past_of p journal) ≡ true
    → (o : RunOutcome) × (outcome p (past_of p journal) ≡ Some o)
has_outcome p journal legal over =
    let some = some_outcome p (ended_runs (past_of p journal)) (sub_run (past_of p journal))
    (over_ended p (reverse journal) legal over) in
    (some.0, over_outcome p (past_of p journal) over ∙ some.1)

-- one with no outcome isn't over
pub not_over : (p : Settings) (journal : List Entry) → IsLegal p journal → outcome p (past_of p journal) ≡ None
    → is_over (past_of p journal) ≡ false
not_over p journal legal none = by_end (is_over (past_of p journal)) refl
  where
    by_end : (b : Bool) → is_over (past_of p journal) ≡ b → is_over (past_of p journal) ≡ false
    by_end true over =
        let some = has_outcome p journal legal over in
        let no : None ≡ Some some.0 = sym none ∙ some.1 in cc
    by_end false on = on
