use Rattle.std.proofs.Common.{reverse}
use Rattle.run_laws.proofs.board.Limits.{limits}
use Rattle.run_laws.proofs.laws.limits_hold.Goals as goal

pub returns : goal.returns
returns c = λ p journal n legal. limits p (reverse journal) n legal
