use Rattle.run_input.proofs.InputLemmas.{read_more}
use Rattle.run_input.proofs.input.read_turns.Goals as goal

pub lines-preserved : goal.lines-preserved
lines-preserved o c =
    rw c.in_ok-push.ensures.ok
    (read_more _ c.lines.rest.now _ c.split_line.result.0.now _ _ _ c.lines.invariant c.split_line.ensures.lines
    c.split_line.ensures.shorter c.in-Ok.ensures)
