use Rattle.run_plan_line.proofs.UnitLemmas.{script_again}
use Rattle.run_plan_line.proofs.units.script_value.Goals as goal

pub returns-clause-read : goal.returns-clause-read
returns-clause-read c = script_again c.args.script.now c.in_ok-put_script_ways.ensures.slow
