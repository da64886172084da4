use Rattle.std.proofs.Common.{◌∙◌}
use Rattle.run_state.proofs.WorkingLemmas.{none-near, take-near}
use Rattle.run_state.proofs.working.take_out.Goals as goal

pub returns-in-Ok : goal.returns-in-Ok
returns-in-Ok c flags is on =
    c.remove.ensures.items ∙ take-near c.args.numbers.now.items flags c.args.number c.in-Ok.place is on
    (rw c.as_slice.ensures.value at c.in-Ok.ensures.position)

pub returns-in_default : goal.returns-in_default
returns-in_default c flags is on =
    absurd (none-near c.args.numbers.now.items flags c.args.number c.in_default.field-0 is on
    (rw c.as_slice.ensures.value at c.in_default.ensures.position))
