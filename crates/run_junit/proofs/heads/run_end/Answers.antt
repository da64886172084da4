use Rattle.run_junit.specs.declared.tag.Tag.TheVariants as tags
use Rattle.run_junit.proofs.TokenLemmas.{document_end_from}
use Rattle.run_junit.proofs.heads.run_end.Goals as goal

pub returns : goal.returns
returns c =
    document_end_from tags.TestSuites _ _ _ _ c.new-out.ensures.bytes c.in_ok-push_line.ensures
    c.in_ok-push_end.ensures c.in_ok-push_line-2.ensures
