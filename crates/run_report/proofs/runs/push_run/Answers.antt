use Rattle.std.proofs.Common.{◌∙◌}
use Rattle.run_report.proofs.runs.push_run.Goals as goal

pub returns : goal.returns
returns c = rw (c.as_str.ensures.value ∙ c.in_ok-said.ensures) at c.push_titled.ensures
