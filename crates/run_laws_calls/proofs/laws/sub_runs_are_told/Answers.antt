use Rattle.std.proofs.Common.{reverse}
use Rattle.run_laws_calls.proofs.SubRunLemmas.{cancelled_last, ends_told}
use Rattle.run_laws_calls.proofs.laws.sub_runs_are_told.Goals as goal

pub returns : goal.returns
returns c = record {
  ends = ends_told;
  last = λ p journal legal going_on. cancelled_last p (reverse journal) legal going_on;
}
