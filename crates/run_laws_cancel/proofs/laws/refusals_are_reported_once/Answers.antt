use Rattle.std.proofs.Common.{reverse}
use Rattle.run_laws_cancel.proofs.EnabledLemmas.{reported}
use Rattle.run_laws_cancel.proofs.laws.refusals_are_reported_once.Goals as goal

pub returns : goal.returns
returns c = λ p journal legal. reported p (reverse journal) legal
