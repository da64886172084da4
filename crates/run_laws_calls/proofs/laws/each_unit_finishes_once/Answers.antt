use Rattle.std.proofs.Common.{reverse}
use Rattle.run_laws_calls.proofs.CountLemmas.{at_end, at_most}
use Rattle.run_laws_calls.proofs.laws.each_unit_finishes_once.Goals as goal

pub returns : goal.returns
returns c = record {
  at_most = λ p journal legal k. at_most p (reverse journal) legal k;
  at_end = λ p journal legal. at_end p (reverse journal) legal;
}
