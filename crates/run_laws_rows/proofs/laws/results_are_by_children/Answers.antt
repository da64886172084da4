use Rattle.std.proofs.Common.{reverse}
use Rattle.run_laws_rows.proofs.ResultLemmas.{by_children, scripts_late, three_pass}
use Rattle.run_laws_rows.proofs.laws.results_are_by_children.Goals as goal

pub returns : goal.returns
returns c = record {
  results = λ p journal legal k. by_children p (reverse journal) legal k;
  passes = three_pass;
  scripts = λ p journal legal k lt. scripts_late p (reverse journal) legal k lt;
}
