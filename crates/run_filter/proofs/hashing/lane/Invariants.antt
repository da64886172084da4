use Rattle.std.proofs.Common.{◌≡◌}
use Rattle.run_filter.specs.Xxh64.{lane}
use Rattle.run_filter.proofs.hashing.lane.Given as goal

abbrev pub invariant-loop-i : goal.invariant-loop-i
invariant-loop-i l = l.sum ≡ lane l.bytes l.first l.start l.i
