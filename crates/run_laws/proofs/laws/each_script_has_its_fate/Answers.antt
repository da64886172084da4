use Rattle.std.proofs.Common.{reverse}
use Rattle.run_laws.proofs.told.FirstLemmas.{script_fates}
use Rattle.run_laws.proofs.laws.each_script_has_its_fate.Goals as goal

pub returns : goal.returns
returns c = λ p journal legal. script_fates p (reverse journal) legal
