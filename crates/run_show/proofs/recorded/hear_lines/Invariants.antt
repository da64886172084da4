use Rattle.std.proofs.Common.{◌≡◌, drop}
use Rattle.run_report.specs.Speaks.{Speaks}
use Rattle.run_show.specs.FirstLines.{ahead}
use Rattle.run_show.specs.Shown.{HasRead}
use Rattle.run_show.proofs.recorded.hear_lines.Given as goal

abbrev pub invariant-lines : goal.invariant-lines
invariant-lines g l = record {
  read : HasRead (ahead (g.S.Source.left l.fn.lines.source) (drop l.fn.lines.at l.fn.lines.read.items))
      (ahead (g.S.Source.left l.lines.source) (drop l.lines.at l.lines.read.items))
      (λ events. Speaks l.report.settings (g.K.Sink.taken l.report.start.value)
      (g.K.Sink.taken l.report.sink) (g.K.Sink.faults l.report.start.value)
      (g.K.Sink.faults l.report.sink) l.report.went l.report.heard events) l.failed l.number;
  faults : g.S.Source.faults l.lines.source ≡ g.S.Source.faults l.fn.lines.source;
  settings : l.report.settings ≡ l.fn.report.settings;
  start : l.report.start.value ≡ l.fn.report.start.value;
}
