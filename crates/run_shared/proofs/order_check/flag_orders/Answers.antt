use Rattle.std.proofs.Common.{◌≡◌, ℕ}
use Rattle.run_shared.specs.declared.orders.Errand.{Errand}
use Rattle.run_shared.specs.declared.orders.Errand.TheVariants as errands
use Rattle.run_shared.specs.declared.orders.Order.{Order}
use Rattle.run_shared.proofs.OrderLemmas.{fault_next, flags_next}
use Rattle.run_shared.proofs.order_check.flag_orders.Goals as goal

abbrev item : Order → ℕ × Errand
item = λ (o : Order). (o.place, errands.Signal o.ask)

pub returns-in-Err-clause-fault : goal.returns-in-Err-clause-fault
returns-in-Err-clause-fault c =
    fault_next item c.args.asks.now c.args.seen.now c.loop-order.seen c.args.list.now c.loop-order.order-index _
    c.in-Err.fault c.loop-order-test.true c.loop-order.invariant
    (rw (c.place.ensures, c.ask-ask.ensures) at c.in-Err.ensures.fault)

pub loop-order-preserved : goal.loop-order-preserved
loop-order-preserved c =
    flags_next item c.args.asks.now c.args.seen.now c.loop-order.seen c.flag.new.seen c.args.list.now
    c.loop-order.order-index _ c.loop-order-test.true c.loop-order.invariant
    (rw (c.place.ensures, c.ask-ask.ensures) at c.in_default.ensures.flags)
