-- A source over a reader of std and a sink over a writer.
use Rattle.std.specs.Prelude.{ℕ, List, Option, None}
use Rattle.run_capture.specs.declared.std_source.StdSource.{StdSource}
use Rattle.run_capture.specs.declared.std_sink.StdSink.{StdSink}

-- nothing is told of a stream that others may use too
abbrev pub untold : Option (List ℕ)
untold = None

-- the bytes that the reader of a source has left, where it tells them
abbrev pub reader_left : {R : Type 0} → (R → Option (List ℕ)) → StdSource R → Option (List ℕ)
reader_left remaining source = remaining source.inner

-- how often a source has failed
abbrev pub source_faults : {R : Type 0} → StdSource R → ℕ
source_faults source = source.faults

-- the bytes that the writer of a sink holds, where it tells them
abbrev pub writer_holds : {W : Type 0} → (W → Option (List ℕ)) → StdSink W → Option (List ℕ)
writer_holds contents sink = contents sink.inner

-- how often a sink has failed
abbrev pub sink_faults : {W : Type 0} → StdSink W → ℕ
sink_faults sink = sink.faults
