use Rattle.std.proofs.Common.{◌∙◌, ◌&&◌, nat_le, sym, ap, ap₂, arith}
use Rattle.std.specs.BTreeSet.{contains}
use Rattle.std.specs.Ordering.{nat_cmp}
use Rattle.run_audit_passes.specs.LimitTable.{held_after, is_free_beside, told_seat}
use Rattle.run_audit_passes.specs.declared.taken.AllTaken.{AllTaken}
use Rattle.run_audit_passes.proofs.TakenLemmas.{all_changed}
use Rattle.run_audit_passes.proofs.taken.change_all.Goals as goal

pub returns-then-free : goal.returns-then-free
returns-then-free c =
    let threads = c.args.threads in
    let test = c.args.test.now in
    let sum = c.in_ok-sum.ensures in
    let left = c.weight_of.ensures in
    let right = c.weight_of-2.ensures in
    let held = contains nat_cmp c.args.all.now.slots in
    let after : AllTaken = record { sum = c.in_ok-sum.sum; slots = c.hold.new.held } in
    all_changed threads c.args.all.now after (test, told_seat c.args.old.now) (test, told_seat c.args.new.now)
    c.in_ok-free.free (nat_le c.in_ok-sum.sum threads) (omega (arith, sum, left, right))
    (c.in_ok-free.ensures.free ∙ ap₂ (is_free_beside nat_cmp held) (c.slot_of.ensures test) (c.slot_of-2.ensures test))
    (λ k. c.in_ok-free.ensures.held k
    ∙ ap₂ (λ o q. held_after nat_cmp held o q k) (c.slot_of.ensures test) (c.slot_of-2.ensures test))
    (sym (ap (λ b. b && nat_le c.in_ok-sum.sum threads) c.if-free.true))

pub returns-else-free : goal.returns-else-free
returns-else-free c =
    let threads = c.args.threads in
    let test = c.args.test.now in
    let sum = c.in_ok-sum.ensures in
    let left = c.weight_of.ensures in
    let right = c.weight_of-2.ensures in
    let held = contains nat_cmp c.args.all.now.slots in
    let after : AllTaken = record { sum = c.in_ok-sum.sum; slots = c.hold.new.held } in
    all_changed threads c.args.all.now after (test, told_seat c.args.old.now) (test, told_seat c.args.new.now)
    c.in_ok-free.free c.in_ok-free.free (omega (arith, sum, left, right))
    (c.in_ok-free.ensures.free ∙ ap₂ (is_free_beside nat_cmp held) (c.slot_of.ensures test) (c.slot_of-2.ensures test))
    (λ k. c.in_ok-free.ensures.held k
    ∙ ap₂ (λ o q. held_after nat_cmp held o q k) (c.slot_of.ensures test) (c.slot_of-2.ensures test))
    (c.if-free.false ∙ sym (ap (λ b. b && nat_le c.in_ok-sum.sum threads) c.if-free.false))
