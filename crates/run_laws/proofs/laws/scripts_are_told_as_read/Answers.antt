use Rattle.std.proofs.Common.{reverse}
use Rattle.run_laws.proofs.told.FileLemmas.{told_as_read}
use Rattle.run_laws.proofs.laws.scripts_are_told_as_read.Goals as goal

pub returns : goal.returns
returns c = λ p journal legal. told_as_read p (reverse journal) legal
