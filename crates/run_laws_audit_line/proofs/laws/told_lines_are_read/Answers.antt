use Rattle.std.proofs.Common.{reverse}
use Rattle.run_laws_audit_line.proofs.ToldLemmas.{all_read_so}
use Rattle.run_laws_audit_line.proofs.laws.told_lines_are_read.Goals as goal

pub returns : goal.returns
returns c = λ p journal legal. all_read_so p (reverse journal) legal
