use Rattle.std.proofs.Common.{length}
use Rattle.run_laws_plain.proofs.standing.+is_wait_over.Given as goal

abbrev pub decreases-is_wait_over : goal.decreases-is_wait_over
decreases-is_wait_over l = length l.piece.now
