use Rattle.std.proofs.Common.{length}
use Rattle.run_laws_plain.proofs.timing.+is_started.Given as goal

abbrev pub decreases-is_started : goal.decreases-is_started
decreases-is_started l = length l.piece.now
