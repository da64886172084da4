use Rattle.run_turn_reader.proofs.NameLemmas.{is_piece_head}
use Rattle.run_turn_reader.proofs.by_name.piece_head.Goals as goal

pub returns : goal.returns
returns c = is_piece_head c.in_ok-unit.unit c.in_ok-unit.stream _ c.in_ok-unit.rest.now c.in_ok-after.field-0.now
    c.in_ok-unit.ensures c.in_ok-after.ensures
