use Rattle.std.proofs.Common.{reverse}
use Rattle.run_laws_events.proofs.AnswersNamed.{events_named}
use Rattle.run_laws_events.proofs.laws.events_name_the_plan.Goals as goal

pub returns : goal.returns
returns c = λ p journal legal. events_named p (reverse journal) legal
