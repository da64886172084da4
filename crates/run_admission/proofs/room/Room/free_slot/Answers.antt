use Rattle.std.proofs.Common.{◌<◌, length, is_none, ap, ◌∙◌, arith}
use Rattle.std.specs.List.{position_or_len}
use Rattle.run_admission.specs.Kept.{Use, free_in}
use Rattle.run_admission.proofs.RoomLemmas.{first_marked}
use Rattle.run_admission.proofs.room.Room.free_slot.Goals as goal

pub returns : goal.returns
returns c =
    let r = c.self.inside in
    let inside : position_or_len is_none r.holders.items < length r.holders.items =
    omega (arith, ap free_in c.self.view_is, ap (λ (u : Use). length u.holders) c.self.view_is) in
    first_marked r.holders.items r.free c.first_within.result c.self.invariant inside c.first_within.ensures
    ∙ ap free_in c.self.view_is
