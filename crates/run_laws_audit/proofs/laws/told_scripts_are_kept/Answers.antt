use Rattle.std.proofs.Common.{reverse}
use Rattle.run_laws_audit.proofs.AllKept.{scripts_are_kept}
use Rattle.run_laws_audit.proofs.laws.told_scripts_are_kept.Goals as goal

pub returns : goal.returns
returns c = λ p journal legal over plain. scripts_are_kept p (reverse journal) legal over plain
