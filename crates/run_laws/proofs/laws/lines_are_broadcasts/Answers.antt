use Rattle.std.proofs.Common.{reverse}
use Rattle.run_laws.proofs.board.Kept.{lined}
use Rattle.run_laws.proofs.laws.lines_are_broadcasts.Goals as goal

pub returns : goal.returns
returns c = λ p journal legal j u is live. lined p (reverse journal) legal j u is live
