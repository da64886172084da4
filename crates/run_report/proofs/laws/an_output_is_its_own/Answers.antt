use Rattle.run_report.proofs.LawLemmas.{outputs}
use Rattle.run_report.proofs.laws.an_output_is_its_own.Goals as goal

pub returns : goal.returns
returns c = outputs
