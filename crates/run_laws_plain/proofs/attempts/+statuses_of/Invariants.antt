use Rattle.std.proofs.Common.{length}
use Rattle.run_laws_plain.proofs.attempts.+statuses_of.Given as goal

abbrev pub decreases-statuses_of : goal.decreases-statuses_of
decreases-statuses_of l = length l.story.now
