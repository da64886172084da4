use Rattle.std.proofs.Common.{length}
use Rattle.run_laws_plain.proofs.outcomes.+errors_of.Given as goal

abbrev pub decreases-errors_of : goal.decreases-errors_of
decreases-errors_of l = length l.piece.now
