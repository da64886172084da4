use Rattle.std.proofs.Common.{rules, [], IfErr, Result}
use Rattle.std.proofs.lemmas.List.Elements.{All-push}
use Rattle.std.specs.declared.thread.PromisedHandle.{PromisedHandle}
use Rattle.run_whole.specs.declared.worker_thread.Done.{Done}
use Rattle.run_whole.specs.declared.worker_thread.OwnWork.{OwnWork}
use Rattle.run_whole.specs.declared.jobs.Job.{Job}
use Rattle.run_whole.specs.Work.{HasKept, IsJobReady}
use Rattle.run_live.proofs.GatherLemmas.{all_after}
use Rattle.run_whole.proofs.starting.start_each.Goals as goal

pub loop-job-preserved : goal.loop-job-preserved
loop-job-preserved g c =
    let was = c.loop-job.invariant in let step = c.in-Some.ensures.steps in
    let P : Result (PromisedHandle (Done g.row.L.Denot g.row.W.Denot) OwnWork)
    (Done g.row.L.Denot g.row.W.Denot) → Type 0 =
    λ r. IfErr r (HasKept g.W.Keeper.has_heard) in
    let Q : Job g.row.L.Denot g.row.W.Denot → Type 0 = IsJobReady g.W.Keeper.has_heard in (
      search rules,
      rw c.push_reserved.ensures.items (All-push P c.loop-job.all.items c.start.result was.1 c.start.ensures),
      all_after Q _ _ c.in-Some.job step.0 was.2,
      search rules,
    )
