use Rattle.run_laws_cancel.proofs.EndLemmas.{asks_ends}
use Rattle.run_laws_cancel.proofs.laws.children_are_ended.Goals as goal

pub returns : goal.returns
returns c = asks_ends
