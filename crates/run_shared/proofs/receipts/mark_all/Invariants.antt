use Rattle.std.proofs.Common.{take}
use Rattle.run_shared.specs.Receipts.{Looked, concatenated}
use Rattle.run_shared.proofs.receipts.mark_all.Given as goal

abbrev pub invariant-loop-list : goal.invariant-loop-list
invariant-loop-list l = Looked l.journal l.initial.seen l.seen (concatenated (take l.list-index l.lists))
