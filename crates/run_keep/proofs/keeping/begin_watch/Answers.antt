use Rattle.std.proofs.Common.{◌≡◌, Some, true}
use Rattle.run_keep.proofs.MindLemmas.{minded_more}
use Rattle.run_keep.proofs.keeping.begin_watch.Goals as goal

pub returns-clause-minded : goal.returns-clause-minded
returns-clause-minded g c = λ child idle.
    let runs = Some (c.args.start.now.unit, true) in
    minded_more g.K.Keeper.has_heard c.args.keeper.now c.begin.new.keeper c.watch_on.new.keeper child runs
    (Some (c.args.start.now.unit, c.in_ok-still.still)) c.args.work.now c.begin.new.work c.watch_on.new.work
    (rw c.if-not-on.false at c.in_ok-on.ensures.minded child idle) c.in_ok-still.ensures.minded
