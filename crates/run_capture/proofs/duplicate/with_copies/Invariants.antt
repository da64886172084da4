use Rattle.std.proofs.Common.{◌≡◌, ◌++◌, take}
use Rattle.run_capture.proofs.duplicate.with_copies.Given as goal

abbrev pub invariant-loop-item : goal.invariant-loop-item
invariant-loop-item g l = l.vec.items ≡ l.initial.vec.items ++ take l.item-index l.items
