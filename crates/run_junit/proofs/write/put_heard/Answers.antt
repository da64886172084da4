use Rattle.std.proofs.Common.{◌++◌, List, ap}
use Rattle.run_junit.specs.declared.suites.Kept.{Kept}
use Rattle.run_junit.specs.Document.{run_end, document_open}
use Rattle.run_junit.specs.Put.{heard_bytes, suites_bytes}
use Rattle.run_junit.specs.Tokens.{tokens_bytes}
use Rattle.run_junit.proofs.PutLemmas.{puts_made, puts_three}
use Rattle.run_junit.proofs.write.put_heard.Goals as goal

pub returns-clause-puts : goal.returns-clause-puts
returns-clause-puts g c =
    let heard = c.args.heard.now in
    let first = tokens_bytes (document_open c.args.started heard.counts heard.id heard.elapsed) in
    let suites = c.as_slice.result.now in
    puts_made (g.K.Sink.taken c.args.sink.now) (g.K.Sink.taken c.put_made-2.new.sink) _ _
    (first ++ (suites_bytes suites ++ tokens_bytes run_end)) (heard_bytes c.args.started heard) c.put_made-2.result
    (ap (λ (kept : List Kept). first ++ (suites_bytes kept ++ tokens_bytes run_end)) c.as_slice.ensures)
    (puts_three (g.K.Sink.taken c.args.sink.now) _ _ (g.K.Sink.taken c.put_made-2.new.sink) _ _ _ _ first
    (suites_bytes suites) (tokens_bytes run_end) c.put_made-2.result
    (c.in_ok-put_made.ensures.puts first c.document_open.ensures) c.in_ok-put_suites.ensures.puts
    (c.put_made-2.ensures.puts (tokens_bytes run_end) c.run_end.ensures))
