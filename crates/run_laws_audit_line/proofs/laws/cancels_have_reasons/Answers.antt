use Rattle.std.proofs.Common.{reverse}
use Rattle.run_laws_audit_line.proofs.ToldLemmas.{all_have}
use Rattle.run_laws_audit_line.proofs.laws.cancels_have_reasons.Goals as goal

pub returns : goal.returns
returns c = λ p journal legal. all_have p (reverse journal) legal
