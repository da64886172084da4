use Rattle.std.proofs.Common.{Some, false}
use Rattle.run_keep.proofs.MindLemmas.{minded_more}
use Rattle.run_keep.proofs.keeping.close.Goals as goal

pub returns-clause-minded : goal.returns-clause-minded
returns-clause-minded g c =
    let child = Some (c.args.unit, false) in
    minded_more g.K.Keeper.has_heard c.args.keeper.now c.close_env.new.keeper c.hand_on.new.keeper child child child
    c.args.work.now c.close_env.new.work c.hand_on.new.work c.in_ok-close_env.ensures.minded
    c.in_ok-hand_on.ensures.minded

pub returns-clause-counted : goal.returns-clause-counted
returns-clause-counted g c = rw c.hand_on.ensures.receipts c.in_ok-close_env.ensures.counted
