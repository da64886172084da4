use Rattle.std.proofs.Common.{reverse}
use Rattle.run_laws_audit.proofs.WholeLemmas.{shape_kept}
use Rattle.run_laws_audit.proofs.laws.told_shapes_are_kept.Goals as goal

pub returns : goal.returns
returns c = λ p journal legal over. shape_kept p (reverse journal) legal over
