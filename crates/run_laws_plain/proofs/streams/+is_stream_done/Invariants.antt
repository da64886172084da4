use Rattle.std.proofs.Common.{length}
use Rattle.run_laws_plain.proofs.streams.+is_stream_done.Given as goal

abbrev pub decreases-is_stream_done : goal.decreases-is_stream_done
decreases-is_stream_done l = length l.piece.now
