use Rattle.run_filter.proofs.HeldLemmas.{negation_held}
use Rattle.run_filter.proofs.held.not_held.Goals as goal

pub returns-in_ok-not_each-in-Ok : goal.returns-in_ok-not_each-in-Ok
returns-in_ok-not_each-in-Ok c = λ t tests h.
    negation_held t tests c.in-Ok.held.items _ _ c.as_slice.ensures.value c.in_ok-not_each-in-Ok.ensures
    (rw c.in-Ok.is at h)
