use Rattle.std.proofs.Common.{reverse}
use Rattle.run_laws_audit.proofs.CancelLemmas.{cancels_are_kept}
use Rattle.run_laws_audit.proofs.laws.told_cancels_are_kept.Goals as goal

pub returns : goal.returns
returns c = λ p journal legal over. cancels_are_kept p (reverse journal) legal over
