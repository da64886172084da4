use Rattle.run_turn_reader.proofs.ShapeLemmas.{is_decide, is_due, is_take}
use Rattle.run_turn_reader.proofs.shapes.of_unit.Goals as goal

pub returns-in-Some : goal.returns-in-Some
returns-in-Some c = is_decide c.in_ok-unit.unit c.in_ok-word.word _ c.in-Some.rest.now c.in_ok-unit.rest.now
    c.in_ok-after.field-0.now c.in-Some.ensures c.in_ok-unit.ensures c.in_ok-after.ensures c.in_ok-word.ensures

pub returns-in-Some-after : goal.returns-in-Some-after
returns-in-Some-after c = is_due c.in_ok-unit-2.unit _ c.in-Some-after.rest.now c.in-Some-after.ensures
    c.in_ok-unit-2.ensures

pub returns : goal.returns
returns c = is_take c.in_ok-unit-3.unit _ c.in_ok-after-2.field-0.now c.in_ok-after-2.ensures c.in_ok-unit-3.ensures
