use Rattle.run_model.specs.Journal.{past_of}
use Rattle.run_laws_cancel.proofs.KeyLemmas.{comes, keys_do}
use Rattle.run_laws_cancel.proofs.laws.keys_are_t_and_enter.Goals as goal

pub returns : goal.returns
returns c = record {
  come = λ p journal key legal. comes p (past_of p journal) key;
  turns = keys_do;
}
