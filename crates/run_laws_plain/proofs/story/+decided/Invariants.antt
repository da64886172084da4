use Rattle.std.proofs.Common.{length}
use Rattle.run_laws_plain.proofs.story.+decided.Given as goal

abbrev pub decreases-decided : goal.decreases-decided
decreases-decided l = length l.story.now
