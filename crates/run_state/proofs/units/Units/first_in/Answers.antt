use Rattle.std.proofs.Common.{◌≡◌, ◌<◌, ℕ, length, get_or, Option, Some, None, sym, subst, ◌∙◌, arith}
use Rattle.run_model.specs.declared.unit_view.UnitView.{UnitView}
use Rattle.run_state.specs.Counted.{working_in}
use Rattle.run_state.specs.First.{phase_of}
use Rattle.run_state.proofs.WorkingLemmas.{all_before, all_units, next_too, not_in}
use Rattle.run_state.proofs.units.Units.first_in.Goals as goal

pub returns-then-is_in-clause-first : goal.returns-then-is_in-clause-first
returns-then-is_in-clause-first c = record {
  is = sym c.phase.ensures ∙ c.is_in.ensures.found c.if-is_in.true;
  before = all_before c.args.self.now (λ o. phase_of o ≡ Some c.args.phase → ⊥) (not_in c.args.phase c.requires)
      c.loop-place.place c.working_at-unit.result (omega arith) (sym c.working_at-unit.ensures) c.loop-place.invariant;
}

pub loop-place-preserved : goal.loop-place-preserved
loop-place-preserved c =
    let us = c.args.self.now in
    next_too (λ j. phase_of (get_or us (get_or (working_in us) j 0) None) ≡ Some c.args.phase → ⊥) c.loop-place.place
    c.loop-place.invariant
    (subst (λ n. phase_of (get_or us n None) ≡ Some c.args.phase → ⊥) c.working_at-unit.ensures
    (λ is. c.is_in.ensures.other c.if-is_in.false (c.phase.ensures ∙ is)))

pub returns-clause-none : goal.returns-clause-none
returns-clause-none c = λ e.
    all_units c.args.self.now (λ o. phase_of o ≡ Some c.args.phase → ⊥) (not_in c.args.phase c.requires)
    (λ j below. c.loop-place.invariant j (omega arith))
