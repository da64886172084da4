use Rattle.std.proofs.Common.{length}
use Rattle.run_store_io.specs.Steps.{HasTurns}
use Rattle.run_store_io.proofs.records.read_records.Given as goal

abbrev pub invariant-records : goal.invariant-records
invariant-records l = HasTurns l.records l.turns l.rest

abbrev pub decreases-records : goal.decreases-records
decreases-records l = length l.rest
