use Rattle.std.proofs.Common.{length}
use Rattle.run_laws_plain.proofs.story.+newest.Given as goal

abbrev pub decreases-newest : goal.decreases-newest
decreases-newest l = length l.story.now
