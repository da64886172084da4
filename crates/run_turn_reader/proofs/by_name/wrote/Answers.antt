use Rattle.run_turn_reader.proofs.NameLemmas.{is_piece_line}
use Rattle.run_turn_reader.proofs.by_name.wrote.Goals as goal

pub returns-in-Some-2 : goal.returns-in-Some-2
returns-in-Some-2 c = is_piece_line _ c.in-Some.unit c.in-Some.stream _ c.in-Some.rest.now _ c.in-Some.ensures
    (rw c.in-Some-2.is at c.in_ok-output.ensures) c.piece_with.ensures
