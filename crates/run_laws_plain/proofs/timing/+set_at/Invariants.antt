use Rattle.std.proofs.Common.{length}
use Rattle.run_laws_plain.proofs.timing.+set_at.Given as goal

abbrev pub decreases-set_at : goal.decreases-set_at
decreases-set_at l = length l.piece.now
