use Rattle.std.proofs.Common.{reverse}
use Rattle.run_laws_audit.proofs.AllKept.{accounts_are_kept}
use Rattle.run_laws_audit.proofs.laws.told_accounts_are_kept.Goals as goal

pub returns : goal.returns
returns c = λ p journal once legal over plain. accounts_are_kept p (reverse journal) once legal over plain
