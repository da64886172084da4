use Rattle.std.proofs.lemmas.Result.{IfOk-weaker}
use Rattle.run_whole.proofs.AllLemmas.{whole_of}
use Rattle.run_whole.proofs.running.whole_on.Goals as goal

pub returns-in-Ok-clause-workers : goal.returns-in-Ok-clause-workers
returns-in-Ok-clause-workers g c =
    IfOk-weaker c.finish.result _ _ (λ w e. rw e.0 c.in-Ok.ensures.count) c.finish.ensures.same

pub returns-in-Ok-clause-own : goal.returns-in-Ok-clause-own
returns-in-Ok-clause-own g c =
    let whole = whole_of g.H.Worker.Keeper.has_heard _ _ _ _ _ _ c.in-Ok.ensures.gathered in
    IfOk-weaker c.finish.result _ _ (λ w e. rw (e.0, e.1) whole) c.finish.ensures.same

pub returns-in-Ok-clause-ticker : goal.returns-in-Ok-clause-ticker
returns-in-Ok-clause-ticker g c =
    IfOk-weaker c.finish.result _ _ (λ w e. rw (e.0, e.1) c.in-Ok.ensures.ticker) c.finish.ensures.same

pub returns-in-Ok-clause-listener : goal.returns-in-Ok-clause-listener
returns-in-Ok-clause-listener g c =
    IfOk-weaker c.finish.result _ _ (λ w e. rw (e.0, e.1) c.in-Ok.ensures.ear) c.finish.ensures.same

pub returns-in-Ok-clause-halts : goal.returns-in-Ok-clause-halts
returns-in-Ok-clause-halts g c =
    IfOk-weaker c.finish.result _ _ (λ w e. rw e.0 c.in-Ok.ensures.halts) c.finish.ensures.same
