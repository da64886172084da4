use Rattle.std.proofs.Common.{length}
use Rattle.run_laws_plain.proofs.fates.+with_retries.Given as goal

abbrev pub decreases-with_retries : goal.decreases-with_retries
decreases-with_retries l = length l.statuses.now
