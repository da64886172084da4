use Rattle.std.proofs.Common.{reverse}
use Rattle.run_laws_events.proofs.PlanMessages.{attempts_told}
use Rattle.run_laws_events.proofs.laws.slow_reports_say_attempts.Goals as goal

pub returns : goal.returns
returns c = λ p journal legal. attempts_told p (reverse journal) legal
