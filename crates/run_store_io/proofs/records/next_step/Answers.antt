use Rattle.std.proofs.Common.{◌≡◌, ◌==◌, ℕ, false, List, subst, arith}
use Rattle.std.proofs.lemmas.Bool.Decides.{nat_tests}
use Rattle.run_store.specs.Stores.{after_turns}
use Rattle.run_store_io.specs.Found.{IsRecord}
use Rattle.run_store_io.proofs.StepLemmas.{turn_steps, end_steps, is_last}
use Rattle.run_store_io.proofs.records.next_step.Goals as goal

pub returns-else-kind-eq-TURN : goal.returns-else-kind-eq-TURN
returns-else-kind-eq-TURN c =
    let other : (c.in-Whole.kind == 2) ≡ false = grind (arith, nat_tests, c.if-kind-eq-TURN.false) in
    let last = is_last c.args.turns c.in-Whole.kind c.in-Whole.ensures.may other in
    end_steps c.args.turns c.args.rest.now c.in-Whole.payload.now c.in-Whole.after.now c.end_step.result
    (subst (λ (k : ℕ). IsRecord (after_turns c.args.turns) c.args.rest.now k c.in-Whole.payload.now
    c.in-Whole.after.now) last c.in-Whole.ensures) c.end_step.ensures
