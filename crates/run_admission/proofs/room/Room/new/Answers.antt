use Rattle.std.proofs.Common.{rules, ◌≡◌, replicate, None}
use Rattle.run_admission.proofs.RoomLemmas.{marked_first}
use Rattle.run_admission.proofs.room.Room.new.Goals as goal

pub invariant_of-result : goal.invariant_of-result
invariant_of-result c =
    let free : c.in_ok-holders.holders.items ≡ replicate c.args.slots None = search rules in
    let marks : c.in_ok-marks.marks.items ≡ replicate c.args.slots 0 = search rules in
    rw (free, c.in_ok-free.ensures, c.deref.ensures.value, marks) (marked_first c.args.slots c.requires)
