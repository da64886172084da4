use Rattle.std.proofs.Common.{reverse}
use Rattle.run_laws_calls.proofs.EndingLemmas.{each_ends_so, run_ends_so}
use Rattle.run_laws_calls.proofs.laws.runs_end_as_told.Goals as goal

pub returns : goal.returns
returns c = record {
  each = λ p journal legal. each_ends_so p (reverse journal) legal;
  one = λ p journal single legal over. run_ends_so p (reverse journal) single legal over;
}
