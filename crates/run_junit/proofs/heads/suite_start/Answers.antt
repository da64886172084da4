use Rattle.run_junit.specs.declared.tag.Tag.TheVariants as tags
use Rattle.run_junit.specs.Document.{suite_said}
use Rattle.run_junit.proofs.TokenLemmas.{line_start_from}
use Rattle.run_junit.proofs.heads.suite_start.Goals as goal

pub returns : goal.returns
returns c =
    line_start_from 1 tags.TestSuite (suite_said c.args.name.now c.args.counts) _ _ _ _ _
    c.new-out.ensures.bytes c.in_ok-push_line.ensures c.in_ok-push_start.ensures c.in_ok-push_suite_said.ensures
    c.in_ok-push_str.ensures.bytes
