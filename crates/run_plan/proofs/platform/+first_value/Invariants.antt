use Rattle.std.proofs.Common.{length}
use Rattle.run_plan.proofs.platform.+first_value.Given as goal

abbrev pub decreases-first_value : goal.decreases-first_value
decreases-first_value l = length l.lines.now
