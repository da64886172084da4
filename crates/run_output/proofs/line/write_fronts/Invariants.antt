use Rattle.std.proofs.Common.{◌≡◌, drop}
use Rattle.run_output.specs.Fronts.{AreLong}
use Rattle.run_output.proofs.WrittenLemmas.{TookFronts}
use Rattle.run_output.proofs.line.write_fronts.Given as goal

abbrev pub invariant-loop-text : goal.invariant-loop-text
invariant-loop-text g l = record {
  long : AreLong l.start (drop l.text-index l.fronts);
  taken : TookFronts (g.K.Sink.taken l.initial.sink) (g.K.Sink.taken l.sink) l.fronts l.start l.text-index;
  faults : g.K.Sink.faults l.sink ≡ g.K.Sink.faults l.initial.sink;
}
