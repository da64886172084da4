use Rattle.std.proofs.Common.{Some}
use Rattle.run_keep.proofs.SayLemmas.{minded_then}
use Rattle.run_keep.proofs.saying.look.Goals as goal

pub returns-clause-minded : goal.returns-clause-minded
returns-clause-minded g c =
    minded_then g.K.Keeper.has_heard c.args.keeper.now c.offer.new.self c.say.new.keeper
    (Some (c.args.unit, c.args.watch.runs)) (Some (c.args.unit, c.in_ok-next.next.runs)) c.args.work.now
    c.say.new.work c.offer.ensures.unsaid c.in_ok-next.ensures.minded
