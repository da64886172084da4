use Rattle.std.proofs.Common.{Ok, Err, sym, subst}
use Rattle.std.specs.Option.{IfSome}
use Rattle.std.specs.declared.convert.Infallible.{Infallible}
use Rattle.run_jobs.specs.Due.{IsPlanTaken, PlansNext}
use Rattle.run_jobs_cli.specs.NextWaves.{FindsNext}
use Rattle.run_jobs_cli.proofs.NextLemmas.{found_next, found_none, next_fault}
use Rattle.run_jobs_cli.proofs.next.find_next.Goals as goal

pub returns-in-Ok-Some : goal.returns-in-Ok-Some
returns-in-Ok-Some c =
    let batch = c.args.jobs.now in
    let lists = c.args.lists.now in
    let plan = c.in-Ok-Some.plan in
    found_next batch lists c.in-Ok-Some.field-0-0-0 plan c.threads.result c.wave_line.result c.found.result
    (subst (λ o. PlansNext {E = Infallible} batch lists (Ok o)) c.in-Ok-Some.field-0-is c.in-Ok-Some.ensures.plans)
    (subst (λ o. IfSome o IsPlanTaken) c.in-Ok-Some.field-0-is c.in-Ok-Some.ensures.runnable) c.threads.ensures
    c.wave_line.ensures.text c.wave_line.ensures.says c.found.ensures.ok c.found.ensures.err

pub returns-in-Ok-None : goal.returns-in-Ok-None
returns-in-Ok-None c =
    let batch = c.args.jobs.now in
    let lists = c.args.lists.now in
    found_none batch lists c.none_due_line.result c.found-in-Ok-None.result
    (subst (λ o. PlansNext {E = Infallible} batch lists (Ok o)) c.in-Ok-None.field-0-is c.in-Ok-None.ensures.plans)
    c.none_due_line.ensures c.found-in-Ok-None.ensures.ok c.found-in-Ok-None.ensures.err

pub returns : goal.returns
returns c =
    subst (λ fault. FindsNext c.args.jobs.now c.args.lists.now (Err fault)) (sym c.waves_fault.ensures)
    (next_fault c.args.jobs.now c.args.lists.now c.in-Err.error c.in-Err.ensures.plans)
