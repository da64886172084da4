use Rattle.std.proofs.lemmas.Result.{IfOk-weaker}
use Rattle.run_whole.proofs.ending.finish.Goals as goal

pub returns-in-Ok-clause-once : goal.returns-in-Ok-clause-once
returns-in-Ok-clause-once g c =
    IfOk-weaker c.settle.result _ _ (λ w e. rw (e.1, e.2) c.in-Ok.ensures.once) c.settle.ensures.same

pub returns-in-Ok-clause-stands : goal.returns-in-Ok-clause-stands
returns-in-Ok-clause-stands g c =
    IfOk-weaker c.settle.result _ _ (λ w e. rw (e.1, e.2) c.in-Ok.ensures.stands) c.settle.ensures.same

pub returns-in-Ok-clause-left : goal.returns-in-Ok-clause-left
returns-in-Ok-clause-left g c =
    IfOk-weaker c.settle.result _ _ (λ w e. rw (e.1, e.2) c.in-Ok.ensures.left) c.settle.ensures.same
