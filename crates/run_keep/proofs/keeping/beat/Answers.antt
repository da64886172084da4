use Rattle.std.proofs.Common.{Some}
use Rattle.run_keep.proofs.MindLemmas.{minded_more}
use Rattle.run_keep.proofs.keeping.beat.Goals as goal

pub returns-clause-minded : goal.returns-clause-minded
returns-clause-minded g c =
    let child = Some (c.args.unit, c.args.watch.runs) in
    minded_more g.K.Keeper.has_heard c.args.keeper.now c.hand_on.new.keeper c.look.new.keeper child child
    (Some (c.args.unit, c.in_ok-next.next.runs)) c.args.work.now c.hand_on.new.work c.look.new.work
    c.in_ok-hand_on.ensures.minded c.in_ok-next.ensures.minded

pub returns-clause-counted : goal.returns-clause-counted
returns-clause-counted g c = rw c.hand_on.ensures.receipts at c.in_ok-next.ensures.counted
