use Rattle.std.proofs.Common.{length}
use Rattle.run_laws_plain.proofs.timing.+add_since.Given as goal

abbrev pub decreases-add_since : goal.decreases-add_since
decreases-add_since l = length l.piece.now
