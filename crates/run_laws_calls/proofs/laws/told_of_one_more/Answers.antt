use Rattle.run_laws_calls.proofs.WholeLemmas.{adds_one}
use Rattle.run_laws_calls.proofs.laws.told_of_one_more.Goals as goal

pub returns : goal.returns
returns c = adds_one
