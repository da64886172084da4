use Rattle.run_turn_laws.proofs.TurnLemmas.{lines_read}
use Rattle.run_turn_laws.proofs.laws.turn_lines_are_read.Goals as goal

pub returns : goal.returns
returns c = lines_read
