use Rattle.std.proofs.Common.{length}
use Rattle.run_laws_plain.proofs.pauses.+counted_time.Given as goal

abbrev pub decreases-counted_time : goal.decreases-counted_time
decreases-counted_time l = length l.marks.now
