use Rattle.std.proofs.Common.{arith}
use Rattle.run_admission.proofs.DraftLemmas.{firsts_next}
use Rattle.run_admission.proofs.draft.firsts_of.Goals as goal

pub loop-place-preserved : goal.loop-place-preserved
loop-place-preserved c =
    let l = c.loop-place in
    firsts_next c.args.rooms.now c.args.lines.now l.place c.room_of-room.result c.first.result l.firsts.items _
    c.index-lines-place.result l.invariant (omega arith) c.index-lines-place.is c.room_of-room.ensures c.first.ensures
    c.in_ok-push.ensures.items
