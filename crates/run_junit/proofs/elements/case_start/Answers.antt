use Rattle.run_junit.specs.declared.tag.Tag.TheVariants as tags
use Rattle.run_junit.specs.Cases.{case_said}
use Rattle.run_junit.proofs.TokenLemmas.{line_start_from}
use Rattle.run_junit.proofs.elements.case_start.Goals as goal

pub returns : goal.returns
returns c =
    line_start_from 2 tags.TestCase (case_said c.args.started c.args.name.now c.args.class.now c.args.at c.args.time)
    _ _ _ _ _
    c.new-out.ensures.bytes c.in_ok-push_line.ensures c.in_ok-push_start.ensures c.in_ok-push_case_said.ensures
    c.in_ok-push_str.ensures.bytes
