use Rattle.std.proofs.Common.{reverse}
use Rattle.run_laws_rounds.proofs.rounds.RunTime.{timed}
use Rattle.run_laws_rounds.proofs.laws.active_time_is_counted.Goals as goal

pub returns : goal.returns
returns c = λ p journal legal. timed p (reverse journal)
