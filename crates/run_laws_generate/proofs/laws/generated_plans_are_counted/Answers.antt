use Rattle.run_laws_generate.proofs.CountLemmas.{counts}
use Rattle.run_laws_generate.proofs.laws.generated_plans_are_counted.Goals as goal

pub returns : goal.returns
returns c = counts
