use Rattle.std.proofs.Common.{reverse}
use Rattle.run_laws_events.proofs.PlanMessages.{flaky_told}
use Rattle.run_laws_events.proofs.laws.finishes_say_flaky.Goals as goal

pub returns : goal.returns
returns c = λ p journal legal. flaky_told p (reverse journal) legal
