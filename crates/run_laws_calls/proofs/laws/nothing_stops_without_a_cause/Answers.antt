use Rattle.std.proofs.Common.{reverse}
use Rattle.run_model.specs.Words.{sub_run}
use Rattle.run_model.specs.Journal.{past_of}
use Rattle.run_laws_calls.proofs.CountLemmas.{each_once, once_one}
use Rattle.run_laws_calls.proofs.ToldLemmas.{causes_told, unstopped_by}
use Rattle.run_laws_calls.proofs.laws.nothing_stops_without_a_cause.Goals as goal

pub returns : goal.returns
returns c = record {
  stops = λ p journal legal calm k.
      unstopped_by (sub_run (past_of p journal)) (causes_told p (reverse journal) legal) calm k;
  each = λ p journal legal. each_once p (reverse journal) legal;
  one = λ p journal single legal over calm k. once_one p (reverse journal) single legal over calm k;
}
