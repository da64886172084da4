use Rattle.std.proofs.Common.{◌≡◌, ◌≤◌, ◌+◌, ◌-◌, length}
use Rattle.run_capture.specs.Bytes.{Gives}
use Rattle.run_capture.proofs.reading.read_to_end.Given as goal

abbrev pub invariant-chunks : goal.invariant-chunks
invariant-chunks g l = record {
  given : Gives (g.S.Source.left l.initial.source) (g.S.Source.left l.source) l.bytes;
  faults : g.S.Source.faults l.source ≡ g.S.Source.faults l.initial.source;
  room : length l.bytes ≤ l.limit + 8192;
}

abbrev pub decreases-chunks : goal.decreases-chunks
decreases-chunks g l = l.limit + 1 - length l.bytes
