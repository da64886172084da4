use Rattle.run_turn_laws.proofs.PrintedLemmas.{is_printed}
use Rattle.run_turn_reader.proofs.printed.turn_as_printed.Goals as goal

pub returns-in-Some : goal.returns-in-Some
returns-in-Some c = is_printed _ _ (rw c.in-Some.is at c.in_ok-turn.ensures)
