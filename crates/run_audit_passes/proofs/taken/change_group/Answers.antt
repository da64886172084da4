use Rattle.std.proofs.Common.{◌∙◌, ◌&&◌, nat_le, sym, ap, arith}
use Rattle.run_audit_machines.specs.Limits.{seat_weight}
use Rattle.run_audit_passes.specs.LimitTable.{told_seat}
use Rattle.run_audit_passes.specs.declared.taken.GroupsTaken.{GroupsTaken}
use Rattle.run_audit_passes.proofs.TakenLemmas.{group_changed}
use Rattle.run_audit_passes.proofs.taken.change_group.Goals as goal

pub returns-then-free : goal.returns-then-free
returns-then-free c = λ all group seats place named first limit takes own.
    let test = c.args.test.now in
    let old = told_seat c.args.old.now in
    let new = told_seat c.args.new.now in
    let sum = c.in_ok-sum.ensures.sum in
    let left = c.weight_of-before.ensures ∙ sym (ap (λ l. seat_weight l (test, old)) limit) in
    let right = c.weight_of-after.ensures ∙ sym (ap (λ l. seat_weight l (test, new)) limit) in
    let after : GroupsTaken = record { sums = c.change_sum.new.sums; slots = c.change_slot.new.slots } in
    group_changed all group c.args.name.now test c.args.groups.now after old new c.in_ok-sum.sum c.in_ok-free.free
    (nat_le c.in_ok-sum.sum c.args.limit) named first (omega (arith, sum, left, right)) c.in_ok-sum.ensures.sums
    c.in_ok-free.ensures.free c.in_ok-free.ensures.held
    (sym (ap (λ b. b && nat_le c.in_ok-sum.sum c.args.limit) c.if-free.true)
    ∙ ap (λ l. c.in_ok-free.free && nat_le c.in_ok-sum.sum l) (sym limit)) seats place takes own

pub returns-else-free : goal.returns-else-free
returns-else-free c = λ all group seats place named first limit takes own.
    let test = c.args.test.now in
    let old = told_seat c.args.old.now in
    let new = told_seat c.args.new.now in
    let sum = c.in_ok-sum.ensures.sum in
    let left = c.weight_of-before.ensures ∙ sym (ap (λ l. seat_weight l (test, old)) limit) in
    let right = c.weight_of-after.ensures ∙ sym (ap (λ l. seat_weight l (test, new)) limit) in
    let after : GroupsTaken = record { sums = c.change_sum.new.sums; slots = c.change_slot.new.slots } in
    group_changed all group c.args.name.now test c.args.groups.now after old new c.in_ok-sum.sum c.in_ok-free.free
    c.in_ok-free.free named first (omega (arith, sum, left, right)) c.in_ok-sum.ensures.sums
    c.in_ok-free.ensures.free c.in_ok-free.ensures.held
    (c.if-free.false ∙ sym (ap (λ b. b && nat_le c.in_ok-sum.sum group.limit) c.if-free.false)) seats place takes own
