use Rattle.std.proofs.Common.{◌≡◌, string_bytes, take}
use Rattle.run_junit.specs.Page.{parts_bytes}
use Rattle.run_junit.specs.Put.{Puts}
use Rattle.run_junit.proofs.write.put_parts.Given as goal

abbrev pub invariant-loop-part : goal.invariant-loop-part
invariant-loop-part g l = record {
  puts : Puts (g.K.Sink.taken l.initial.sink) (g.K.Sink.taken l.sink) (string_bytes l.initial.buffer)
      (string_bytes l.buffer) (parts_bytes (take l.part-index l.parts));
  faults : g.K.Sink.faults l.sink ≡ g.K.Sink.faults l.initial.sink;
}
