use Rattle.run_turn_laws.proofs.TurnLemmas.{lines_differ}
use Rattle.run_turn_laws.proofs.laws.turn_lines_differ.Goals as goal

pub returns : goal.returns
returns c = lines_differ
