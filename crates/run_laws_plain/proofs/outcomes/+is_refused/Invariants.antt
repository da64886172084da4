use Rattle.std.proofs.Common.{length}
use Rattle.run_laws_plain.proofs.outcomes.+is_refused.Given as goal

abbrev pub decreases-is_refused : goal.decreases-is_refused
decreases-is_refused l = length l.piece.now
