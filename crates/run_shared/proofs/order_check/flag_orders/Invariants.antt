use Rattle.std.proofs.Common.{take}
use Rattle.run_shared.specs.Orders.{Flags, ordered}
use Rattle.run_shared.proofs.order_check.flag_orders.Given as goal

abbrev pub invariant-loop-order : goal.invariant-loop-order
invariant-loop-order l = Flags l.asks l.initial.seen l.seen (ordered (take l.order-index l.list))
