use Rattle.std.proofs.Common.{length}
use Rattle.run_laws_plain.proofs.attempts.+add_pauses.Given as goal

abbrev pub decreases-add_pauses : goal.decreases-add_pauses
decreases-add_pauses l = length l.piece.now
