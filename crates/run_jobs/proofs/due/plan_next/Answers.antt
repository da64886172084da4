use Rattle.std.proofs.Common.{Err, subst}
use Rattle.run_jobs.specs.Due.{RunsAgain}
use Rattle.run_jobs.proofs.AcceptLemmas.{sound_jobs}
use Rattle.run_jobs.proofs.FaultLemmas.{in_order}
use Rattle.run_jobs.proofs.DueLemmas.{plans_none, plans_some}
use Rattle.run_jobs.proofs.due.plan_next.Goals as goal

pub returns-in-Ok-clause-plans : goal.returns-in-Ok-clause-plans
returns-in-Ok-clause-plans c =
    plans_none c.args.jobs.now c.args.turns.now c.run_again.new.states c.in-Ok.due c.none_due.result c.in-Ok.ensures
    c.none_due.ensures

pub returns-in-Err-Missing-clause-plans : goal.returns-in-Err-Missing-clause-plans
returns-in-Err-Missing-clause-plans c =
    let batch = c.args.jobs.now in
    plans_some batch c.args.turns.now c.run_again.new.states c.in-Err-Missing.wave c.plan_at.result
    (in_order batch.jobs (sound_jobs batch.threads batch.jobs c.plan_at.ensures.sound))
    (subst (λ e. RunsAgain batch c.args.turns.now c.run_again.new.states (Err e)) c.in-Err-Missing.field-0-is
    c.in-Err-Missing.ensures) c.plan_at.ensures.plan
