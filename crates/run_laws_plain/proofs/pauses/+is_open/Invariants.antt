use Rattle.std.proofs.Common.{length}
use Rattle.run_laws_plain.proofs.pauses.+is_open.Given as goal

abbrev pub decreases-is_open : goal.decreases-is_open
decreases-is_open l = length l.turns.now
