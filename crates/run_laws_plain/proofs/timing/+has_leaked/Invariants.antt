use Rattle.std.proofs.Common.{length}
use Rattle.run_laws_plain.proofs.timing.+has_leaked.Given as goal

abbrev pub decreases-has_leaked : goal.decreases-has_leaked
decreases-has_leaked l = length l.piece.now
