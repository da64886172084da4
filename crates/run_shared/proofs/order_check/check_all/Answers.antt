use Rattle.std.proofs.Common.{◌≡◌, ◌++◌, length, refl}
use Rattle.run_shared.specs.Receipts.{concatenated}
use Rattle.run_shared.specs.Orders.{halted, ordered}
use Rattle.run_shared.proofs.OrderLemmas.{delivers_of, fault_of, lost_of}
use Rattle.run_shared.proofs.order_check.check_all.Goals as goal

pub returns-in-Err-clause-fault : goal.returns-in-Err-clause-fault
returns-in-Err-clause-fault c =
    fault_of c.args.asks.now (length c.args.asks.now)
    (ordered (concatenated c.args.orders.now) ++ halted c.args.halts.now) c.in-Err.fault
    (rw c.requires at c.in-Err.ensures.fault)

pub returns-in-Some-clause-fault : goal.returns-in-Some-clause-fault
returns-in-Some-clause-fault c =
    lost_of c.args.asks.now (length c.args.asks.now) c.flag_both.new.seen
    (ordered (concatenated c.args.orders.now) ++ halted c.args.halts.now) c.in-Some.place
    (rw c.requires at c.in_default.ensures.flags) c.in-Some.ensures.some.0 c.in-Some.ensures.some.1

pub returns-in-None-clause-delivers : goal.returns-in-None-clause-delivers
returns-in-None-clause-delivers c =
    delivers_of c.args.asks.now (length c.args.asks.now) c.flag_both.new.seen
    (ordered (concatenated c.args.orders.now) ++ halted c.args.halts.now)
    (rw c.requires at c.in_default.ensures.flags) (c.in-None.ensures.none refl)
