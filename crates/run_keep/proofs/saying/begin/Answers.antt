use Rattle.run_keep.proofs.SayLemmas.{minded_begun}
use Rattle.run_keep.proofs.saying.begin.Goals as goal

pub returns-clause-minded : goal.returns-clause-minded
returns-clause-minded g c = λ child idle.
    minded_begun g.K.Keeper.has_heard c.args.keeper.now c.start.new.self child c.args.start.now c.in_ok-begun.begun
    c.is_started-runs.result c.args.work.now c.add.new.work c.in_ok-begun.ensures.asked idle
    (c.is_started-runs.ensures c.args.start.now.unit) (rw c.into_turn.ensures at c.in_ok-add.ensures.adds)
