use Rattle.std.proofs.Common.{reverse}
use Rattle.run_laws_audit.proofs.JoinedTold.{told_joined}
use Rattle.run_laws_audit.proofs.laws.told_of_sub_runs.Goals as goal

pub returns : goal.returns
returns c = λ p journal legal over. told_joined p (reverse journal) legal over
