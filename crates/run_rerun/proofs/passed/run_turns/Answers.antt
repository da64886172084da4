use Rattle.run_cli.proofs.GivenLemmas.{line_few}
use Rattle.run_rerun.proofs.passed.run_turns.Goals as goal

pub run_plan-requires-clause-units : goal.run_plan-requires-clause-units
run_plan-requires-clause-units c = line_few c.args.line.now c.in-Ok.keys c.in-Ok.plan c.in-Ok.ensures
