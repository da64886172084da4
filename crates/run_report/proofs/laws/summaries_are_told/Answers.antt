use Rattle.run_report.proofs.LawLemmas.{summaries_told}
use Rattle.run_report.proofs.laws.summaries_are_told.Goals as goal

pub returns : goal.returns
returns c = summaries_told
