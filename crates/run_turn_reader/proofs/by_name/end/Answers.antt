use Rattle.std.proofs.Common.{codes}
use Rattle.run_turn_reader.proofs.NameLemmas.{at_same, exit_line}
use Rattle.run_turn_reader.proofs.by_name.end.Goals as goal

pub returns-in-Some : goal.returns-in-Some
returns-in-Some c = at_same _ _ _ (exit_line c.in_ok-unit.unit _ c.in_ok-unit.rest.now (codes ",\"code\":")
    c.in-Some.last.now c.in_ok-unit.ensures c.in-Some.ensures) c.code.ensures

pub returns : goal.returns
returns c = at_same _ _ _ (exit_line c.in_ok-unit.unit _ c.in_ok-unit.rest.now (codes ",\"signal\":")
    c.in_ok-after.field-0.now c.in_ok-unit.ensures c.in_ok-after.ensures) c.signal.ensures
