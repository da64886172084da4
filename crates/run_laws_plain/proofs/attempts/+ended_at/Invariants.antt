use Rattle.std.proofs.Common.{length}
use Rattle.run_laws_plain.proofs.attempts.+ended_at.Given as goal

abbrev pub decreases-ended_at : goal.decreases-ended_at
decreases-ended_at l = length l.piece.now
