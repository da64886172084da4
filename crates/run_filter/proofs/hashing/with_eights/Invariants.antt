use Rattle.std.proofs.Common.{◌≡◌}
use Rattle.run_filter.specs.Xxh64.{with_eights}
use Rattle.run_filter.proofs.hashing.with_eights.Given as goal

abbrev pub invariant-loop-i : goal.invariant-loop-i
invariant-loop-i l = l.hash ≡ with_eights l.fn.hash l.bytes l.i
