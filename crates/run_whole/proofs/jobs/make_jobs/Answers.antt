use Rattle.std.proofs.Common.{rules, ◌+◌, []}
use Rattle.std.proofs.lemmas.List.Elements.{All-push}
use Rattle.run_whole.specs.declared.jobs.Job.{Job}
use Rattle.run_live.specs.Work.{IsOneEmpty}
use Rattle.run_whole.specs.Work.{IsJobReady}
use Rattle.run_whole.proofs.jobs.make_jobs.Goals as goal

pub loop-share-preserved : goal.loop-share-preserved
loop-share-preserved g c =
    let was = c.loop-share.invariant in let step = c.in-Some.ensures.steps in
    let P : Job g.row.L.Denot g.row.H-Worker.Denot → Type 0 = IsJobReady g.H.Worker.Keeper.has_heard in
    let one : IsOneEmpty c.in-Some.share.parts c.in-Some.share.amount =
    let h = was.2 0 c.in-Some.share in grind rules in (
      search rules,
      rw c.push_reserved.ensures.items (All-push P c.loop-share.jobs.items _ was.1 (c.keeper-worker.ensures, one)),
      (λ k d below. let h = was.2 (k + 1) d in grind rules),
      search rules,
    )
