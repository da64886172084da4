use Rattle.run_cli.proofs.GivenLemmas.{line_few}
use Rattle.run_rerun_cli.proofs.found.refusal_in.Goals as goal

pub runner_of-requires : goal.runner_of-requires
runner_of-requires c = line_few c.args.line.now c.in-Ok.keys c.in-Ok.plan c.in-Ok.ensures
