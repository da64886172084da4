use Rattle.run_junit.specs.Cases.{attempt_attributes}
use Rattle.run_junit.proofs.TokenLemmas.{line_start_from}
use Rattle.run_junit.proofs.elements.attempt_start.Goals as goal

pub returns : goal.returns
returns c =
    line_start_from 3 c.args.tag (attempt_attributes c.args.started c.args.status.now) _ _ _ _ _
    c.new-out.ensures.bytes c.in_ok-push_line.ensures c.in_ok-push_start.ensures c.in_ok-push_attempt_said.ensures
    c.in_ok-push_str.ensures.bytes
