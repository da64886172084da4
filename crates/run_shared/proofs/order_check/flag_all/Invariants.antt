use Rattle.std.proofs.Common.{take}
use Rattle.run_shared.specs.Receipts.{concatenated}
use Rattle.run_shared.specs.Orders.{Flags, ordered}
use Rattle.run_shared.proofs.order_check.flag_all.Given as goal

abbrev pub invariant-loop-list : goal.invariant-loop-list
invariant-loop-list l = Flags l.asks l.initial.seen l.seen (ordered (concatenated (take l.list-index l.lists)))
