use Rattle.std.proofs.Common.{length}
use Rattle.run_laws_plain.proofs.fates.+failures.Given as goal

abbrev pub decreases-failures : goal.decreases-failures
decreases-failures l = length l.statuses.now
