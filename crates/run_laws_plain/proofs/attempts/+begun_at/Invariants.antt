use Rattle.std.proofs.Common.{length}
use Rattle.run_laws_plain.proofs.attempts.+begun_at.Given as goal

abbrev pub decreases-begun_at : goal.decreases-begun_at
decreases-begun_at l = length l.piece.now
