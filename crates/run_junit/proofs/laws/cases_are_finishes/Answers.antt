use Rattle.run_junit.proofs.LawLemmas.{cases_are_finishes}
use Rattle.run_junit.proofs.laws.cases_are_finishes.Goals as goal

pub returns : goal.returns
returns c = cases_are_finishes
