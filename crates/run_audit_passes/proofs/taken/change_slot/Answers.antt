use Rattle.std.proofs.Common.{◌≡◌, ℕ, List, Option, OnOk, subst}
use Rattle.std.specs.BTreeSet.{contains}
use Rattle.run_audit_passes.specs.LimitTable.{group_slot_order, held_after, told_seat, slot_in_group}
use Rattle.run_audit_passes.proofs.taken.change_slot.Goals as goal

pub returns-clause-held : goal.returns-clause-held
returns-clause-held c =
    let held = contains group_slot_order c.args.slots.now in
    let after = contains group_slot_order c.hold.new.held in
    subst (λ o. OnOk c.hold.result ((k : List ℕ × Option ℕ) → after k ≡ held_after group_slot_order held o
    (slot_in_group c.args.name.now (told_seat c.args.new.now)) k)) c.in_ok-before.ensures
    (subst (λ o. OnOk c.hold.result ((k : List ℕ × Option ℕ) → after k ≡ held_after group_slot_order held
    c.in_ok-before.before o k)) c.in_ok-after.ensures c.hold.ensures.held)
