use Rattle.std.proofs.Common.{Err, subst, sym}
use Rattle.std.specs.Option.{option_copied}
use Rattle.run_plan.specs.Calls.{AnswersProject}
use Rattle.run_plan.specs.declared.plan_fault.PlanFault.{PlanFault}
use Rattle.run_plan.proofs.CallLemmas.{asks_answered}
use Rattle.run_plan.proofs.calls.plan_by.Goals as goal

pub returns-clause-err : goal.returns-clause-err
returns-clause-err c =
    let config = option_copied c.args.config in
    let list = c.args.list.now in
    let project = c.args.project.now in
    let choices = c.args.given.0.now in
    let call = c.args.given.1.now in
    subst (λ (f : PlanFault). AnswersProject (Err f) config list project choices call) (sym c.asked_fault.ensures)
    (asks_answered config list project choices call c.in-Err.error c.in-Err.ensures.err)
