use Rattle.run_turn_reader.proofs.ShapeLemmas.{is_stream_end}
use Rattle.run_turn_reader.proofs.shapes.stream_end.Goals as goal

pub returns : goal.returns
returns c = is_stream_end c.in_ok-unit.unit c.in_ok-stream.stream _ c.in_ok-stream.rest.now c.in_ok-after.field-0.now
    c.in_ok-stream.ensures c.in_ok-after.ensures c.in_ok-unit.ensures
