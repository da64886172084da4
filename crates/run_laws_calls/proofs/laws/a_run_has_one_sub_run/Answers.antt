use Rattle.std.proofs.Common.{reverse}
use Rattle.run_laws_calls.proofs.WholeLemmas.{one_run}
use Rattle.run_laws_calls.proofs.laws.a_run_has_one_sub_run.Goals as goal

pub returns : goal.returns
returns c = λ p journal single legal. one_run p (reverse journal) single legal
