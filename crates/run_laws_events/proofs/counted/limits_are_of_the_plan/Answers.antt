use Rattle.std.proofs.Common.{reverse}
use Rattle.run_laws_events.proofs.WithinLemmas.{plan_limits}
use Rattle.run_laws_events.proofs.counted.limits_are_of_the_plan.Goals as goal

pub returns : goal.returns
returns c = λ p journal n legal. plan_limits p (reverse journal) n legal
