use Rattle.std.proofs.Common.{reverse}
use Rattle.run_laws_audit.proofs.AllKept.{limits_are_kept}
use Rattle.run_laws_audit.proofs.laws.told_limits_are_kept.Goals as goal

pub returns : goal.returns
returns c = λ p journal once legal over. limits_are_kept p (reverse journal) once legal over
