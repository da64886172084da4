use Rattle.std.proofs.Common.{length}
use Rattle.run_laws_plain.proofs.env.+fault_said.Given as goal

abbrev pub decreases-fault_said : goal.decreases-fault_said
decreases-fault_said l = length l.piece.now
