use Rattle.std.proofs.Common.{◌≡◌, string_bytes}
use Rattle.run_junit.specs.declared.escape.Place.TheVariants.{Body}
use Rattle.run_junit.specs.Escape.{after_all, shown_chars}
use Rattle.run_junit.specs.Put.{Puts}
use Rattle.run_junit.proofs.write.put_chars.Given as goal

abbrev pub invariant-loop-c : goal.invariant-loop-c
invariant-loop-c g l = record {
  puts : Puts (g.K.Sink.taken l.initial.sink) (g.K.Sink.taken l.sink) (string_bytes l.initial.buffer)
      (string_bytes l.buffer) (shown_chars Body l.fn.at l.yielded);
  at : l.next ≡ after_all l.fn.at l.yielded;
  faults : g.K.Sink.faults l.sink ≡ g.K.Sink.faults l.initial.sink;
}
