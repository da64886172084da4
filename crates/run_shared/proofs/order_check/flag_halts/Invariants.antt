use Rattle.std.proofs.Common.{take}
use Rattle.run_shared.specs.Orders.{Flags, halted}
use Rattle.run_shared.proofs.order_check.flag_halts.Given as goal

abbrev pub invariant-loop-halt : goal.invariant-loop-halt
invariant-loop-halt l = Flags l.asks l.initial.seen l.seen (halted (take l.halt-index l.halts))
