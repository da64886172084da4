use Rattle.run_keep.proofs.KeepLemmas.{attends_closed, attends_left}
use Rattle.run_keep.proofs.keeping.attend.Goals as goal

pub returns-then-on-clause-attends : goal.returns-then-on-clause-attends
returns-then-on-clause-attends g c =
    let over = c.pass_over.ensures in
    attends_left g.K.Keeper.has_heard c.args.keeper.now c.begin_watch.new.keeper c.args.start.now.unit c.in_ok-on.on
    c.args.work.now c.pass_over.new.work c.begin_watch.new.work over.receipts over.lost over.orders over.later
    c.in_ok-on.ensures.minded

pub returns-clause-attends : goal.returns-clause-attends
returns-clause-attends g c =
    let over = c.pass_over.ensures in
    attends_closed g.K.Keeper.has_heard c.args.keeper.now c.begin_watch.new.keeper c.close.new.keeper
    c.args.start.now.unit c.in_ok-on.on c.args.work.now c.pass_over.new.work c.begin_watch.new.work c.close.new.work
    over.receipts over.lost over.orders over.later c.in_ok-on.ensures.minded c.if-on.false
    c.in_ok-close.ensures.minded
