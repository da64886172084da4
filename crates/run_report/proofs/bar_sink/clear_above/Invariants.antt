use Rattle.std.specs.Prelude.{◌≡◌}
use Rattle.run_capture.specs.Bytes.{Takes}
use Rattle.run_report.specs.Bar.{clears_above}
use Rattle.run_report.proofs.bar_sink.clear_above.Given as goal

abbrev pub invariant-loop-line : goal.invariant-loop-line
invariant-loop-line g l =
    record {
      taken : Takes (g.K.Sink.taken l.initial.sink) (g.K.Sink.taken l.sink) (clears_above l._line);
      faults : g.K.Sink.faults l.sink ≡ g.K.Sink.faults l.initial.sink;
    }
