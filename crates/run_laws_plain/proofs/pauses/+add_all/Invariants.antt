use Rattle.std.proofs.Common.{length}
use Rattle.run_laws_plain.proofs.pauses.+add_all.Given as goal

abbrev pub decreases-add_all : goal.decreases-add_all
decreases-add_all l = length l.turns.now
