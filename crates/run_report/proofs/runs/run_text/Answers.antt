use Rattle.run_report.specs.Runs.{run_text}
use Rattle.run_report.proofs.runs.run_text.Goals as goal

pub returns : goal.returns
unfolding run_text
returns c = cc (c.in_ok-format.ensures.ok, c.as_str-profile.ensures)
