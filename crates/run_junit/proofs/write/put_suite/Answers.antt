use Rattle.std.proofs.Common.{◌∙◌, ◌++◌, List, ap, ℕ}
use Rattle.run_junit.specs.Document.{suite_end, suite_start}
use Rattle.run_junit.specs.Put.{cases_bytes, suite_bytes}
use Rattle.run_junit.specs.Tokens.{tokens_bytes}
use Rattle.run_junit.proofs.PutLemmas.{puts_made, puts_three}
use Rattle.run_junit.proofs.write.put_suite.Goals as goal

pub returns-clause-puts : goal.returns-clause-puts
returns-clause-puts g c =
    let suite = c.args.suite.now in
    let first = tokens_bytes (suite_start c.as_str.result.now suite.counts) in
    let cases = c.as_slice.result.now in
    puts_made (g.K.Sink.taken c.args.sink.now) (g.K.Sink.taken c.put_made-2.new.sink) _ _
    (first ++ (cases_bytes cases ++ tokens_bytes suite_end)) (suite_bytes suite) c.put_made-2.result
    (ap (λ (name : List ℕ). tokens_bytes (suite_start name suite.counts)
    ++ (cases_bytes cases ++ tokens_bytes suite_end)) c.as_str.ensures
    ∙ ap (λ (texts : List (List ℕ)). tokens_bytes (suite_start suite.name suite.counts)
    ++ (cases_bytes texts ++ tokens_bytes suite_end)) c.as_slice.ensures)
    (puts_three (g.K.Sink.taken c.args.sink.now) _ _ (g.K.Sink.taken c.put_made-2.new.sink) _ _ _ _ first
    (cases_bytes cases) (tokens_bytes suite_end) c.put_made-2.result
    (c.in_ok-put_made.ensures.puts first c.suite_start.ensures) c.in_ok-put_cases.ensures.puts
    (c.put_made-2.ensures.puts (tokens_bytes suite_end) c.suite_end.ensures))
