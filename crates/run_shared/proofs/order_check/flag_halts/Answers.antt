use Rattle.std.proofs.Common.{◌≡◌, ℕ}
use Rattle.run_shared.specs.declared.orders.Errand.{Errand}
use Rattle.run_shared.specs.declared.orders.Errand.TheVariants as errands
use Rattle.run_shared.specs.declared.orders.Halt.{Halt}
use Rattle.run_shared.proofs.OrderLemmas.{fault_next, flags_next}
use Rattle.run_shared.proofs.order_check.flag_halts.Goals as goal

abbrev item : Halt → ℕ × Errand
item = λ (h : Halt). (h.place, errands.Stop)

pub returns-in-Err-clause-fault : goal.returns-in-Err-clause-fault
returns-in-Err-clause-fault c =
    fault_next item c.args.asks.now c.args.seen.now c.loop-halt.seen c.args.halts.now c.loop-halt.halt-index _
    c.in-Err.fault c.loop-halt-test.true c.loop-halt.invariant (rw c.place.ensures at c.in-Err.ensures.fault)

pub loop-halt-preserved : goal.loop-halt-preserved
loop-halt-preserved c =
    flags_next item c.args.asks.now c.args.seen.now c.loop-halt.seen c.flag.new.seen c.args.halts.now
    c.loop-halt.halt-index _ c.loop-halt-test.true c.loop-halt.invariant
    (rw c.place.ensures at c.in_default.ensures.flags)
