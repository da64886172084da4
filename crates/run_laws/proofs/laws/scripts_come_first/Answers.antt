use Rattle.std.proofs.Common.{reverse}
use Rattle.run_laws.proofs.told.FirstLemmas.{come_first}
use Rattle.run_laws.proofs.laws.scripts_come_first.Goals as goal

pub returns : goal.returns
returns c = λ p journal legal. come_first p (reverse journal) legal
