use Rattle.std.proofs.Common.{◌≡◌, string_bytes, take}
use Rattle.run_junit.specs.Put.{suites_bytes}
use Rattle.run_junit.specs.Put.{Puts, suites_bytes}
use Rattle.run_junit.proofs.write.put_suites.Given as goal

abbrev pub invariant-loop-suite : goal.invariant-loop-suite
invariant-loop-suite g l = record {
  puts : Puts (g.K.Sink.taken l.initial.sink) (g.K.Sink.taken l.sink) (string_bytes l.initial.buffer)
      (string_bytes l.buffer) (suites_bytes (take l.suite-index l.suites));
  faults : g.K.Sink.faults l.sink ≡ g.K.Sink.faults l.initial.sink;
}
