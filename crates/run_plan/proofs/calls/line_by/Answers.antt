use Rattle.std.proofs.Common.{All, subst, sym}
use Rattle.std.specs.List.{zip}
use Rattle.run_plan_line.specs.SaidPlan.{HasRank}
use Rattle.run_plan_line.specs.declared.said.SaidPlan.{SaidPlan}
use Rattle.run_plan.specs.Listed.{listed}
use Rattle.run_plan.specs.Planned.{kept_rows, planned, threads_of_call}
use Rattle.run_plan.proofs.RankLemmas.{tests_ranked}
use Rattle.run_plan.proofs.calls.line_by.Goals as goal

pub line_of-requires : goal.line_of-requires
unfolding planned
line_of-requires c =
    let e = c.in-Ok.ensures.ok in
    let choices = c.args.given.0.now in
    let call = c.args.given.1.now in
    let profile = c.args.project.now.profile in
    subst (λ (p : SaidPlan). All HasRank p.tests) (sym e.is.is)
    (tests_ranked call.processors (threads_of_call call profile choices.ways) profile choices.picks e.is.used
    (kept_rows choices.picks (zip (listed c.args.list.now) e.asked)))
