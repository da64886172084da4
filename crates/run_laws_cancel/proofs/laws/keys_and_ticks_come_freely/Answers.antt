use Rattle.run_model.specs.Journal.{past_of}
use Rattle.run_laws_cancel.proofs.RoundTurns.{keys_so, ticks_so}
use Rattle.run_laws_cancel.proofs.laws.keys_and_ticks_come_freely.Goals as goal

pub returns : goal.returns
returns c = record {
  keys = λ p journal key legal. keys_so p (past_of p journal) key;
  ticks = λ p journal legal. ticks_so p (past_of p journal);
}
