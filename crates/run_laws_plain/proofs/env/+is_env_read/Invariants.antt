use Rattle.std.proofs.Common.{length}
use Rattle.run_laws_plain.proofs.env.+is_env_read.Given as goal

abbrev pub decreases-is_env_read : goal.decreases-is_env_read
decreases-is_env_read l = length l.piece.now
