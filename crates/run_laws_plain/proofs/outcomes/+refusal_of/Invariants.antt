use Rattle.std.proofs.Common.{length}
use Rattle.run_laws_plain.proofs.outcomes.+refusal_of.Given as goal

abbrev pub decreases-refusal_of : goal.decreases-refusal_of
decreases-refusal_of l = length l.piece.now
