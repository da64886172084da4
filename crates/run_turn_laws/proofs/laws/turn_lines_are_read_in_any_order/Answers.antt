use Rattle.run_turn_laws.proofs.TurnLemmas.{lines_read_in_any_order}
use Rattle.run_turn_laws.proofs.laws.turn_lines_are_read_in_any_order.Goals as goal

pub returns : goal.returns
returns c = lines_read_in_any_order
