use Rattle.std.proofs.Common.{◌≡◌, take, length}
use Rattle.run_shared.proofs.same.same_items.Given as goal

abbrev pub invariant-loop-i : goal.invariant-loop-i
invariant-loop-i g l = (length l.a ≡ length l.b) × (take l.i l.a ≡ take l.i l.b)
