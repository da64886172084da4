use Rattle.std.proofs.Common.{◌≡◌, ◌∙◌, ◌==◌, false, length, sym}
use Rattle.run_junit.proofs.PutLemmas.{after_chunk, puts_chunk}
use Rattle.run_junit.proofs.write.put_chunk.Goals as goal

pub returns-clause-puts : goal.returns-clause-puts
returns-clause-puts g c =
    let off : (length c.args.invalid.now == 0) ≡ false = sym c.is_empty.ensures ∙ c.if-is_empty.false in
    puts_chunk (length c.args.invalid.now == 0) c.args.at c.in_ok-next.next c.args.valid.now
    (g.K.Sink.taken c.args.sink.now) _ (g.K.Sink.taken c.put_chars-2.new.sink) _ _ _ c.put_chars-2.result off
    c.utf8.valid c.in_ok-next.ensures.at c.in_ok-next.ensures.puts c.put_chars-2.ensures.puts

pub returns-clause-at : goal.returns-clause-at
returns-clause-at g c =
    let off : (length c.args.invalid.now == 0) ≡ false = sym c.is_empty.ensures ∙ c.if-is_empty.false in
    after_chunk (length c.args.invalid.now == 0) c.args.at c.in_ok-next.next c.args.valid.now c.put_chars-2.result off
    c.utf8.valid c.in_ok-next.ensures.at c.put_chars-2.ensures.at
