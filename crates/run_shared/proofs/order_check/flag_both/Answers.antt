use Rattle.run_shared.specs.Receipts.{concatenated}
use Rattle.run_shared.specs.Orders.{halted, ordered}
use Rattle.run_shared.proofs.OrderLemmas.{fault_last}
use Rattle.run_shared.proofs.order_check.flag_both.Goals as goal

pub returns-in-Err-flag_halts-clause-fault : goal.returns-in-Err-flag_halts-clause-fault
returns-in-Err-flag_halts-clause-fault c =
    fault_last c.args.asks.now c.args.seen.now c.flag_all.new.seen (ordered (concatenated c.args.orders.now))
    (halted c.args.halts.now) c.in-Err-flag_halts.fault c.in_default.ensures.flags c.in-Err-flag_halts.ensures.fault
