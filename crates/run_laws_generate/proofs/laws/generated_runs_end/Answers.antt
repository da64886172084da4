use Rattle.run_laws_generate.proofs.Short.{never_short}
use Rattle.run_laws_generate.proofs.laws.generated_runs_end.Goals as goal

pub returns : goal.returns
returns c = λ n few short. never_short n few short
