use Rattle.std.proofs.Common.{reverse}
use Rattle.run_laws.proofs.board.Kept.{reported}
use Rattle.run_laws.proofs.laws.reports_are_own_turns.Goals as goal

pub returns : goal.returns
returns c = λ p journal legal j. reported p (reverse journal) legal j
