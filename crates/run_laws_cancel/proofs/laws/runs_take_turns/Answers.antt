use Rattle.std.proofs.Common.{reverse}
use Rattle.run_model.specs.Journal.{past_of}
use Rattle.run_laws_cancel.proofs.RunTurnLemmas.{begins_between, clock_fits, deliveries_free}
use Rattle.run_laws_cancel.proofs.laws.runs_take_turns.Goals as goal

pub returns : goal.returns
returns c = record {
  begins = λ p journal legal. begins_between p (reverse journal);
  deliveries = λ p journal legal. deliveries_free p (reverse journal) legal;
  clock = λ p journal ns legal. clock_fits p (past_of p journal) ns;
}
