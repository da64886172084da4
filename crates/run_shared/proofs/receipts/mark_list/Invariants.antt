use Rattle.std.proofs.Common.{take}
use Rattle.run_shared.specs.Receipts.{Looked}
use Rattle.run_shared.proofs.receipts.mark_list.Given as goal

abbrev pub invariant-loop-receipt : goal.invariant-loop-receipt
invariant-loop-receipt l = Looked l.journal l.initial.seen l.seen (take l.receipt-index l.list)
