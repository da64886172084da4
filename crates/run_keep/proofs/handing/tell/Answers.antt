use Rattle.run_keep.proofs.HandLemmas.{tells_sent}
use Rattle.run_keep.proofs.handing.tell.Goals as goal

pub returns-in_ok-send : goal.returns-in_ok-send
returns-in_ok-send g c = rw c.if-runs.true
    (tells_sent g.K.Keeper.has_heard c.args.keeper.now c.send.new.self c.args.ask.now c.in_ok-send.field-0
    c.in_ok-send.ensures.told)
