use Rattle.std.proofs.Common.{length}
use Rattle.run_laws_plain.proofs.outcomes.+exit_of.Given as goal

abbrev pub decreases-exit_of : goal.decreases-exit_of
decreases-exit_of l = length l.piece.now
