use Rattle.std.proofs.Common.{reverse}
use Rattle.run_laws_cancel.proofs.GroupLemmas.{groups}
use Rattle.run_laws_cancel.proofs.laws.signals_go_to_groups.Goals as goal

pub returns : goal.returns
returns c = λ p journal legal. groups p (reverse journal) legal
