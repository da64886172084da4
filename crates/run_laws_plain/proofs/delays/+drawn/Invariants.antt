use Rattle.std.proofs.Common.{length}
use Rattle.run_laws_plain.proofs.delays.+drawn.Given as goal

abbrev pub decreases-drawn : goal.decreases-drawn
decreases-drawn l = length l.after.now
