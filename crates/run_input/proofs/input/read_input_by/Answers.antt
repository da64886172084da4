use Rattle.std.proofs.Common.{rules, ◌≡◌, Some, ap, sym, ◌∙◌}
use Rattle.run_input.specs.Input.{plan_line_of, turns_said}
use Rattle.run_input.specs.Lines.{lines_of}
use Rattle.run_input.proofs.input.read_input_by.Goals as goal

pub returns-clause-ok : goal.returns-clause-ok
returns-clause-ok o c =
    let done = c.in_ok-keys in
    let first : plan_line_of c.split_line.result.0.now ≡ Some (done.keys, done.plan) = c.in-Ok.ensures
    ∙ ap Some (sym done.ensures.first) in
    let others : turns_said (lines_of c.split_line.result.1.now) ≡ Some done.turns = search rules in
    rw c.split_line.ensures.lines (first, others)
