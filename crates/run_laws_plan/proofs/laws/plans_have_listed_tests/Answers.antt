use Rattle.run_laws_plan.proofs.PlanLemmas.{have_listed}
use Rattle.run_laws_plan.proofs.laws.plans_have_listed_tests.Goals as goal

pub returns : goal.returns
returns c = have_listed
