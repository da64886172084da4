use Rattle.std.proofs.Common.{reverse}
use Rattle.run_laws_calls.proofs.SuccessLemmas.{each_success, run_success}
use Rattle.run_laws_calls.proofs.laws.a_success_is_of_all.Goals as goal

pub returns : goal.returns
returns c = record {
  each = λ p journal legal. each_success p (reverse journal) legal;
  one = λ p journal single legal over. run_success p (reverse journal) single legal over;
}
