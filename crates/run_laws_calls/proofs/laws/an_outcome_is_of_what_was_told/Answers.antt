use Rattle.std.proofs.Common.{reverse}
use Rattle.run_laws_calls.proofs.OutcomeLemmas.{outcome-one, outcome-told}
use Rattle.run_laws_calls.proofs.laws.an_outcome_is_of_what_was_told.Goals as goal

pub returns : goal.returns
returns c = record {
  each = λ p journal legal. outcome-told p (reverse journal) legal;
  one = λ p journal single legal. outcome-one p (reverse journal) single legal;
}
