use Rattle.run_cli.proofs.GivenLemmas.{line_few}
use Rattle.run_whole_cli.proofs.AnswerLemmas.{runner_given, runner_refused}
use Rattle.run_whole_cli.proofs.plan.runner_in.Goals as goal

pub runner_for-requires : goal.runner_for-requires
runner_for-requires c = line_few c.args.line.now c.in-Ok.keys c.in-Ok.plan c.in-Ok.ensures.ok.says

pub returns-in-Ok-clause-ok : goal.returns-in-Ok-clause-ok
returns-in-Ok-clause-ok c =
    runner_given c.args.line.now c.in-Ok.keys c.in-Ok.plan c.runner_for.result c.in-Ok.ensures.ok c.runner_for.ensures

pub returns-in-Ok-clause-err : goal.returns-in-Ok-clause-err
returns-in-Ok-clause-err c =
    runner_refused c.args.line.now c.in-Ok.keys c.in-Ok.plan c.runner_for.result c.in-Ok.ensures.ok c.runner_for.ensures
