use Rattle.std.proofs.Common.{reverse}
use Rattle.run_laws.proofs.board.Kept.{accounts}
use Rattle.run_laws.proofs.laws.accounts_hold.Goals as goal

pub returns : goal.returns
returns c = λ p journal legal j. accounts p (reverse journal) legal j
