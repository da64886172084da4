use Rattle.std.proofs.Common.{length}
use Rattle.std.specs.Prelude.{⊤}
use Rattle.run_store_io.proofs.records.count_turns.Given as goal

abbrev pub invariant-turns : goal.invariant-turns
invariant-turns l = ⊤

abbrev pub decreases-turns : goal.decreases-turns
decreases-turns l = length l.rest
