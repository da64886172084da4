use Rattle.run_turn_reader.proofs.ShapeLemmas.{is_started}
use Rattle.run_turn_reader.proofs.shapes.started.Goals as goal

pub returns : goal.returns
returns c = is_started c.in_ok-unit.unit c.in_ok-pid.pid _ c.in_ok-pid.rest.now c.in_ok-after.field-0.now
    c.in_ok-pid.ensures c.in_ok-after.ensures c.in_ok-unit.ensures
