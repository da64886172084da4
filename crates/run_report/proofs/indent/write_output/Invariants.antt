use Rattle.std.proofs.Common.{◌≡◌, ◌≤◌, ◌-◌, take, length}
use Rattle.run_capture.specs.Bytes.{Takes}
use Rattle.run_report.specs.Indent.{indented_after, last_byte}
use Rattle.run_report.proofs.indent.write_output.Given as goal

abbrev pub invariant-loop-at : goal.invariant-loop-at
invariant-loop-at g l = record {
  within : l.at ≤ length l.output;
  taken : Takes (g.K.Sink.taken l.initial.sink) (g.K.Sink.taken l.sink) (indented_after 10 (take l.at l.output));
  faults : g.K.Sink.faults l.sink ≡ g.K.Sink.faults l.initial.sink;
  last : l.last ≡ last_byte 10 (take l.at l.output);
}

abbrev pub decreases-loop-at : goal.decreases-loop-at
decreases-loop-at g l = length l.output - l.at
