use Rattle.run_laws_plan.proofs.PlanLemmas.{parts_share}
use Rattle.run_laws_plan.proofs.laws.parts_share_plans.Goals as goal

pub returns : goal.returns
returns c = parts_share
