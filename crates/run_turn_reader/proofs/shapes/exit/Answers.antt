use Rattle.std.proofs.Common.{ap, ◌∙◌}
use Rattle.run_output.specs.Turns.{turn_text}
use Rattle.run_turn_reader.proofs.ShapeLemmas.{is_exit}
use Rattle.run_turn_reader.proofs.shapes.exit.Goals as goal

pub returns : goal.returns
returns c = ap turn_text c.exit_with.ensures
    ∙ is_exit c.in_ok-unit.unit c.in_ok-code.code _ c.in_ok-code.rest.now c.in_ok-after.field-0.now
    c.in_ok-code.ensures.1 c.in_ok-after.ensures c.in_ok-unit.ensures
