use Rattle.std.proofs.Common.{refl}
use Rattle.run_keep.proofs.ListenLemmas.{sorts_kept}
use Rattle.run_keep.proofs.hearing.offer_heard.Goals as goal

pub returns-then-may_wait-clause-sorts : goal.returns-then-may_wait-clause-sorts
returns-then-may_wait-clause-sorts g c = λ h.
    sorts_kept h c.args.came c.in-Some.refusal c.args.work.now _
    (rw (c.in-Some.is, c.turn.ensures) at c.in_ok-refusal.ensures.enters) refl
