use Rattle.std.proofs.Common.{length}
use Rattle.run_laws_plain.proofs.story.+count_attempts.Given as goal

abbrev pub decreases-count_attempts : goal.decreases-count_attempts
decreases-count_attempts l = length l.story.now
