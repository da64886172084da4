use Rattle.run_turn_reader.proofs.NameLemmas.{is_unit_stream}
use Rattle.run_turn_reader.proofs.by_name.unit_stream.Goals as goal

pub returns : goal.returns
returns c = is_unit_stream c.in_ok-unit.unit c.in_ok-stream.stream _ c.in_ok-unit.rest.now c.in_ok-after.field-0.now
    c.in_ok-stream.rest.now c.in_ok-unit.ensures c.in_ok-after.ensures c.in_ok-stream.ensures
