use Rattle.std.proofs.Common.{reverse}
use Rattle.run_laws_calls.proofs.ToldLemmas.{causes_told}
use Rattle.run_laws_calls.proofs.laws.causes_are_told.Goals as goal

pub returns : goal.returns
returns c = λ p journal legal. causes_told p (reverse journal) legal
