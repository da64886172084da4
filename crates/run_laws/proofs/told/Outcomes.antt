-- A run has an outcome exactly where it is over.
use Rattle.std.proofs.Common.{◌≡◌, List, Bool, true, false, if◌then◌else◌, Some, None, refl, ap, sym, ◌∙◌}
use Rattle.run_events.specs.declared.settings.Settings.{Settings}
use Rattle.run_events.specs.declared.outcome.RunOutcome.{RunOutcome}
use Rattle.run_model.specs.declared.happening.Happening.{Happening}
use Rattle.run_model.specs.Words.{is_over, ended_runs}
use Rattle.run_model.specs.SubRuns.{outcome_in}
use Rattle.run_model.specs.Journal.{outcome}

-- the outcome of a run that is over
pub over_outcome : (p : Settings) (past : List Happening) → is_over past ≡ true
    → outcome p past ≡ outcome_in p (ended_runs past)
over_outcome p past over = ap (λ b. if b then outcome_in p (ended_runs past) else None) over

-- a run with an outcome is over
pub over_is : (p : Settings) (past : List Happening) (o : RunOutcome) → outcome p past ≡ Some o → is_over past ≡ true
over_is p past o e = by_end (is_over past) refl
  where
    by_end : (b : Bool) → is_over past ≡ b → is_over past ≡ true
    by_end true h = h
    by_end false h =
        let none : None ≡ Some o =
        sym (ap (λ b. if b then outcome_in p (ended_runs past) else None) h) ∙ e in cc
