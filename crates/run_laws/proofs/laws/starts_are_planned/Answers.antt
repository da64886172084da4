use Rattle.std.proofs.Common.{reverse}
use Rattle.run_laws.proofs.told.StartLemmas.{starts_planned}
use Rattle.run_laws.proofs.laws.starts_are_planned.Goals as goal

pub returns : goal.returns
returns c = λ p journal legal. starts_planned p (reverse journal) legal
