use Rattle.std.proofs.Common.{◌≡◌, ℕ, List, take, drop, ◌+◌, sym, subst}
use Rattle.run_shared.specs.declared.orders.Errand.{Errand}
use Rattle.run_shared.specs.Receipts.{concatenated}
use Rattle.run_shared.specs.Orders.{HasFaultAfter, Flags, ordered}
use Rattle.run_shared.proofs.OrderLemmas.{cut_ordered, next_ordered, fault_after, flags_more}
use Rattle.run_shared.proofs.order_check.flag_all.Goals as goal

pub returns-in-Err-clause-fault : goal.returns-in-Err-clause-fault
returns-in-Err-clause-fault c =
    let xss = c.args.lists.now in
    let i = c.loop-list.list-index in
    let xs = c.list-item.result in
    subst (λ (ys : List (ℕ × Errand)). HasFaultAfter c.args.asks.now c.args.seen.now ys c.in-Err.fault)
    (sym (cut_ordered xss i xs c.loop-list-test.true c.list-item.is))
    (fault_after c.args.asks.now c.args.seen.now c.loop-list.seen (ordered (concatenated (take i xss))) (ordered xs)
    (ordered (concatenated (drop (i + 1) xss))) c.in-Err.fault c.loop-list.invariant
    (rw c.as_slice.ensures at c.in-Err.ensures.fault))

pub loop-list-preserved : goal.loop-list-preserved
loop-list-preserved c =
    let xss = c.args.lists.now in
    let i = c.loop-list.list-index in
    let xs = c.list-item.result in
    subst (Flags c.args.asks.now c.args.seen.now c.flag_orders.new.seen)
    (sym (next_ordered xss i xs c.loop-list-test.true c.list-item.is))
    (flags_more c.args.asks.now c.args.seen.now c.loop-list.seen c.flag_orders.new.seen
    (ordered (concatenated (take i xss))) (ordered xs) c.loop-list.invariant
    (rw c.as_slice.ensures at c.in_default.ensures.flags))
