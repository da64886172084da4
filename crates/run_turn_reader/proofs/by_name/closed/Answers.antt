use Rattle.run_turn_reader.proofs.NameLemmas.{is_closed}
use Rattle.run_turn_reader.proofs.by_name.closed.Goals as goal

pub returns-then-are : goal.returns-then-are
returns-then-are c = is_closed c.in_ok-unit.unit c.in_ok-unit.stream _ c.in_ok-unit.rest.now c.in_ok-unit.ensures
    (c.are.ensures c.if-are.true)
