use Rattle.std.proofs.Common.{length}
use Rattle.run_laws_plain.proofs.timing.+add_left.Given as goal

abbrev pub decreases-add_left : goal.decreases-add_left
decreases-add_left l = length l.piece.now
