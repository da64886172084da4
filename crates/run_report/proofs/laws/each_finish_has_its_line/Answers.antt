use Rattle.run_report.proofs.LawLemmas.{final_lines}
use Rattle.run_report.proofs.laws.each_finish_has_its_line.Goals as goal

pub returns : goal.returns
returns c = final_lines
