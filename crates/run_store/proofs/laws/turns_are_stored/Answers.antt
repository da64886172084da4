use Rattle.run_turn_laws.proofs.TurnLemmas.{lines_read}
use Rattle.run_store.proofs.laws.turns_are_stored.Goals as goal

pub returns : goal.returns
returns c = λ t h short. (lines_read t h, short)
