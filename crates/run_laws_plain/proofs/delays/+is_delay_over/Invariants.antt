use Rattle.std.proofs.Common.{length}
use Rattle.run_laws_plain.proofs.delays.+is_delay_over.Given as goal

abbrev pub decreases-is_delay_over : goal.decreases-is_delay_over
decreases-is_delay_over l = length l.after.now
