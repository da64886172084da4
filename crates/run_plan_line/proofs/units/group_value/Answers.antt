use Rattle.run_plan_line.proofs.UnitLemmas.{group_again}
use Rattle.run_plan_line.proofs.units.group_value.Goals as goal

pub returns-clause-read : goal.returns-clause-read
returns-clause-read c = group_again c.args.group.now c.small.ensures.fits
