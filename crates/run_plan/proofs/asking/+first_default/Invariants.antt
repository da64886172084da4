use Rattle.std.proofs.Common.{length}
use Rattle.run_plan.proofs.asking.+first_default.Given as goal

abbrev pub decreases-first_default : goal.decreases-first_default
decreases-first_default l = length l.overrides.now
