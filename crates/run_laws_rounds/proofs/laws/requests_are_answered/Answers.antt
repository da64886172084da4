use Rattle.std.proofs.Common.{reverse}
use Rattle.run_laws_rounds.proofs.rounds.FinishAnswers.{finishes_so}
use Rattle.run_laws_rounds.proofs.rounds.RequestLaws.{requests}
use Rattle.run_laws_rounds.proofs.rounds.RowAnswers.{stops_counted}
use Rattle.run_laws_rounds.proofs.laws.requests_are_answered.Goals as goal

pub returns : goal.returns
returns c = record {
  requests = λ p journal legal k. requests p (reverse journal) legal k;
  finishes = finishes_so;
  stops = stops_counted;
}
