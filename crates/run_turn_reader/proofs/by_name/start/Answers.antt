use Rattle.run_turn_reader.proofs.NameLemmas.{is_start}
use Rattle.run_turn_reader.proofs.by_name.start.Goals as goal

pub returns : goal.returns
returns c = is_start c.in_ok-unit.unit c.in_ok-pid.pid _ c.in_ok-unit.rest.now c.in_ok-after.field-0.now
    c.in_ok-unit.ensures c.in_ok-after.ensures c.in_ok-pid.ensures
