use Rattle.std.proofs.Common.{Err, sym, subst}
use Rattle.run_whole_cli.specs.Given.{BuildsFor}
use Rattle.run_whole_cli.proofs.AnswerLemmas.{built_for}
use Rattle.run_whole_cli.proofs.plan.runner_for.Goals as goal

pub returns-in-Err : goal.returns-in-Err
returns-in-Err c =
    subst (λ fault. BuildsFor c.args.keys c.args.plan (Err fault)) (sym c.fault_of_plan.ensures)
    (built_for c.args.keys c.args.plan c.in-Err.error c.in-Err.ensures)
