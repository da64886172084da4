use Rattle.std.proofs.Common.{length}
use Rattle.run_laws_plain.proofs.streams.+bytes_of.Given as goal

abbrev pub decreases-bytes_of : goal.decreases-bytes_of
decreases-bytes_of l = length l.piece.now
