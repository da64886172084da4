use Rattle.std.proofs.Common.{length}
use Rattle.run_laws_plain.proofs.outcomes.+has_errors.Given as goal

abbrev pub decreases-has_errors : goal.decreases-has_errors
decreases-has_errors l = length l.piece.now
