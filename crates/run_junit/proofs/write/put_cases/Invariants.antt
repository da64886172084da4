use Rattle.std.proofs.Common.{◌≡◌, string_bytes, take}
use Rattle.run_junit.specs.Put.{cases_bytes}
use Rattle.run_junit.specs.Put.{Puts, cases_bytes}
use Rattle.run_junit.proofs.write.put_cases.Given as goal

abbrev pub invariant-loop-case : goal.invariant-loop-case
invariant-loop-case g l = record {
  puts : Puts (g.K.Sink.taken l.initial.sink) (g.K.Sink.taken l.sink) (string_bytes l.initial.buffer)
      (string_bytes l.buffer) (cases_bytes (take l.case-index l.cases));
  faults : g.K.Sink.faults l.sink ≡ g.K.Sink.faults l.initial.sink;
}
