use Rattle.run_rerun.proofs.RunLemmas.{says_stored}
use Rattle.run_rerun.proofs.passed.run_plan.Goals as goal

pub returns-in-Ok-clause-says : goal.returns-in-Ok-clause-says
returns-in-Ok-clause-says c =
    let a = c.args in
    says_stored a.keys a.plan a.turns.now c.in-Ok.runner c.in-Ok.ensures.0 c.in-Ok.ensures.1 c.run_runner.result
    c.run_runner.ensures.says
