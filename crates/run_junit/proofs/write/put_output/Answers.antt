use Rattle.std.proofs.Common.{◌≡◌, ◌∙◌, ◌++◌, [], ap, refl}
use Rattle.std.specs.Str.{chars}
use Rattle.std.specs.Str.Chunks.{utf8_chunks_rest}
use Rattle.std.specs.Str.Lossy.{utf8_lossy}
use Rattle.run_junit.specs.declared.escape.Place.TheVariants.{Body}
use Rattle.run_junit.specs.declared.escape.Sequence.TheVariants.{Outside}
use Rattle.run_junit.specs.Escape.{body_text, shown_chars}
use Rattle.run_junit.specs.Put.{chunk_text}
use Rattle.run_junit.proofs.PutLemmas.{chunk_step, chunks_end, puts_none, puts_same, puts_two}
use Rattle.run_junit.proofs.write.put_output.Goals as goal

pub loop-chunk-init : goal.loop-chunk-init
unfolding body_text
loop-chunk-init g c =
    let all : utf8_chunks_rest c.into_iter-chunk-iterator.result ≡ c.args.output.now = cc in
    record {
      puts = (
        [],
        puts_none (g.K.Sink.taken c.args.sink.now) _,
        ap (λ bytes. shown_chars Body Outside (chars (utf8_lossy bytes))) all,
      );
      faults = refl;
    }

pub loop-chunk-preserved : goal.loop-chunk-preserved
loop-chunk-preserved g c =
    let steps = c.in-Some.ensures.steps in
    let before = c.loop-chunk.invariant.puts in
    let shown = shown_chars Body c.loop-chunk.at (chars (chunk_text c.valid.result.now c.invalid.result.now)) in
    record {
      puts = (
        before.0 ++ shown,
        puts_two (g.K.Sink.taken c.args.sink.now) _ (g.K.Sink.taken c.put_chunk.new.sink) _ _ _ before.0 shown before.1
            c.in-Ok.ensures.puts,
        chunk_step c.loop-chunk.at c.in-Ok.next (utf8_chunks_rest c.loop-chunk.chunk-iterator) _ _ _ _
            (utf8_chunks_rest c.next.new.self) before.0 (body_text c.args.output.now) c.valid.utf8 c.valid.ensures
            c.invalid.ensures steps.0 steps.3.0 steps.3.1 steps.2 c.in-Ok.ensures.at before.2,
      );
      faults = c.in-Ok.ensures.fault ∙ c.loop-chunk.invariant.faults;
    }

pub returns-clause-puts : goal.returns-clause-puts
returns-clause-puts g c =
    let before = c.loop-chunk.invariant.puts in
    puts_same (g.K.Sink.taken c.args.sink.now) (g.K.Sink.taken c.loop-chunk.sink) _ _ before.0
    (body_text c.args.output.now)
    (chunks_end c.loop-chunk.at (utf8_chunks_rest c.loop-chunk.chunk-iterator) before.0 (body_text c.args.output.now)
    c.in-None.ensures.steps.0 before.2)
    before.1
