use Rattle.std.proofs.Common.{reverse}
use Rattle.run_model.specs.Journal.{past_of}
use Rattle.run_laws_cancel.proofs.RoundTurns.{answers_so, queries_so, stops_so}
use Rattle.run_laws_cancel.proofs.laws.rounds_are_waited_for.Goals as goal

pub returns : goal.returns
returns c = record {
  stops = λ p journal legal. stops_so p (reverse journal) legal;
  queries = λ p journal legal. queries_so p (reverse journal) legal;
  answers = λ p journal legal. answers_so p (past_of p journal);
}
