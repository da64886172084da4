use Rattle.std.proofs.Common.{length}
use Rattle.run_laws_plain.proofs.fates.+have_failed.Given as goal

abbrev pub decreases-have_failed : goal.decreases-have_failed
decreases-have_failed l = length l.statuses.now
