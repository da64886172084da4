use Rattle.std.proofs.Common.{reverse}
use Rattle.run_laws.proofs.board.Kept.{made}
use Rattle.run_laws.proofs.laws.attempts_are_their_own_turns.Goals as goal

pub returns : goal.returns
returns c = λ p journal legal j u is. made p (reverse journal) legal j u is
