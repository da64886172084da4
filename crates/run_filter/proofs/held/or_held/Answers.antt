use Rattle.run_filter.proofs.HeldLemmas.{either_held}
use Rattle.run_filter.proofs.held.or_held.Goals as goal

pub returns-in_ok-or_each-in-Ok-Ok : goal.returns-in_ok-or_each-in-Ok-Ok
returns-in_ok-or_each-in-Ok-Ok c = λ t u tests h k.
    either_held t u tests c.in-Ok-Ok.first.items c.in-Ok-Ok.second.items _ _ _ c.as_slice.ensures.value
    c.as_slice-in-Ok-Ok.ensures.value c.in_ok-or_each-in-Ok-Ok.ensures
    (rw c.in-Ok-Ok.is-0 at h) (rw c.in-Ok-Ok.is-1 at k)
