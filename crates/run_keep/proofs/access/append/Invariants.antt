use Rattle.std.proofs.Common.{◌≡◌, ◌++◌}
use Rattle.run_keep.proofs.access.append.Given as goal

abbrev pub invariant-loop-receipt : goal.invariant-loop-receipt
invariant-loop-receipt l = l.receipts ≡ l.initial.receipts ++ l.yielded
