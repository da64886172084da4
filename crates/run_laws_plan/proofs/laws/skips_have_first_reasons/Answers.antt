use Rattle.run_laws_plan.proofs.PlanLemmas.{have_reasons}
use Rattle.run_laws_plan.proofs.laws.skips_have_first_reasons.Goals as goal

pub returns : goal.returns
returns c = have_reasons
