use Rattle.std.proofs.Common.{◌≡◌, take}
use Rattle.run_capture.specs.Bytes.{Takes}
use Rattle.run_report.specs.Shown.{parts_shown}
use Rattle.run_report.proofs.shown.write_parts.Given as goal

abbrev pub invariant-loop-part : goal.invariant-loop-part
invariant-loop-part g l = record {
  taken : Takes (g.K.Sink.taken l.initial.sink) (g.K.Sink.taken l.sink) (parts_shown (take l.part-index l.parts));
  faults : g.K.Sink.faults l.sink ≡ g.K.Sink.faults l.initial.sink;
}
