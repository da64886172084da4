use Rattle.std.proofs.Common.{length}
use Rattle.run_laws_plain.proofs.standing.+standing_of.Given as goal

abbrev pub decreases-standing_of : goal.decreases-standing_of
decreases-standing_of l = length l.piece.now
