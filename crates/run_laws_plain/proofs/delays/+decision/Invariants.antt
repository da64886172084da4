use Rattle.std.proofs.Common.{length}
use Rattle.run_laws_plain.proofs.delays.+decision.Given as goal

abbrev pub decreases-decision : goal.decreases-decision
decreases-decision l = length l.after.now
