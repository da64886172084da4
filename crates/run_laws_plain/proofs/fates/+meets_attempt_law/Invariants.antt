use Rattle.std.proofs.Common.{length}
use Rattle.run_laws_plain.proofs.fates.+meets_attempt_law.Given as goal

abbrev pub decreases-meets_attempt_law : goal.decreases-meets_attempt_law
decreases-meets_attempt_law l = length l.statuses.now
