use Rattle.std.proofs.Common.{reverse}
use Rattle.run_laws_calls.proofs.NumberLemmas.{none_of_scripts, numbered}
use Rattle.run_laws_calls.proofs.laws.events_are_numbered.Goals as goal

pub returns : goal.returns
returns c = record {
  numbered = λ p journal legal. numbered p (reverse journal) legal;
  none = λ p journal legal none. none_of_scripts p (reverse journal) legal none;
}
