use Rattle.run_junit.specs.declared.tag.Tag.TheVariants as tags
use Rattle.run_junit.specs.Document.{run_said}
use Rattle.run_junit.proofs.TokenLemmas.{document_start_from}
use Rattle.run_junit.proofs.heads.document_open.Goals as goal

pub returns : goal.returns
returns c =
    document_start_from tags.TestSuites
    (run_said c.args.started c.args.heard.now.counts c.args.heard.now.id c.args.heard.now.elapsed) _ _ _ _ _
    c.in_ok-out.ensures.ok c.in_ok-push_line.ensures c.in_ok-push_start.ensures c.in_ok-push_run_said.ensures
    c.in_ok-push_str.ensures.bytes
