use Rattle.std.proofs.Common.{reverse}
use Rattle.run_laws_audit.proofs.WholeLemmas.{parts_told}
use Rattle.run_laws_audit.proofs.laws.told_parts_are_sub_runs.Goals as goal

pub returns : goal.returns
returns c = λ p journal legal over. parts_told p (reverse journal) legal over
