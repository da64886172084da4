use Rattle.std.proofs.Common.{reverse}
use Rattle.run_laws_rows.proofs.TermLemmas.{go_alone, keep_terms, of_periods}
use Rattle.run_laws_rows.proofs.laws.units_go_by_the_plan.Goals as goal

pub returns : goal.returns
returns c = record {
  reports = λ p journal legal k. of_periods p (reverse journal) legal k;
  terms = λ p journal legal k u is. keep_terms p (reverse journal) legal k u is;
  scripts = go_alone;
}
