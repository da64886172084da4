use Rattle.std.proofs.Common.{length}
use Rattle.run_plan.proofs.scripted.+script_named.Given as goal

abbrev pub decreases-script_named : goal.decreases-script_named
decreases-script_named l = length l.scripts.now
