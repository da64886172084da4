use Rattle.std.proofs.Common.{◌≡◌, ◌++◌, List, ℕ, string_bytes}
use Rattle.std.specs.Str.{chars}
use Rattle.std.specs.Str.Chunks.{utf8_chunks_rest}
use Rattle.std.specs.Str.Lossy.{utf8_lossy}
use Rattle.run_junit.specs.declared.escape.Place.TheVariants.{Body}
use Rattle.run_junit.specs.Escape.{body_text, shown_chars}
use Rattle.run_junit.specs.Put.{Puts}
use Rattle.run_junit.proofs.write.put_output.Given as goal

abbrev pub invariant-loop-chunk : goal.invariant-loop-chunk
invariant-loop-chunk g l = record {
  puts : (text : List ℕ) × Puts (g.K.Sink.taken l.initial.sink) (g.K.Sink.taken l.sink)
      (string_bytes l.initial.buffer) (string_bytes l.buffer) text
      × (text ++ shown_chars Body l.at (chars (utf8_lossy (utf8_chunks_rest l.chunk-iterator))) ≡ body_text l.output);
  faults : g.K.Sink.faults l.sink ≡ g.K.Sink.faults l.initial.sink;
}
