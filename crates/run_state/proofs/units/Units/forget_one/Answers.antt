use Rattle.std.proofs.Common.{length, get_or, None, count_by, ap, sym, ◌∙◌, arith}
use Rattle.std.proofs.lemmas.List.{length-set}
use Rattle.run_model.specs.Turns.{live_in}
use Rattle.run_state.specs.Counted.{is_left, working_in}
use Rattle.run_state.specs.Forgotten.{forgotten}
use Rattle.run_state.proofs.ForgottenLemmas.{left_forgotten, live_forgotten, working_forgotten}
use Rattle.run_state.proofs.units.Units.forget_one.Goals as goal

pub invariant_of-self : goal.invariant_of-self
invariant_of-self c =
    let us = c.self.inside.items.items in
    let k = c.args.unit in
    let long = ap length c.forget_at.ensures in
    let same = length-set us k (forgotten (get_or us k None)) in (
      c.self.invariant.0 ∙ left_forgotten us k ∙ sym (ap (count_by is_left) c.forget_at.ensures),
      c.self.invariant.1 ∙ working_forgotten us k ∙ sym (ap working_in c.forget_at.ensures),
      c.self.invariant.2 ∙ live_forgotten us k ∙ sym (ap live_in c.forget_at.ensures),
      omega (arith, c.self.invariant.3),
    )
