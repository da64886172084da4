use Rattle.std.proofs.Common.{rules, ◌+◌}
use Rattle.std.proofs.lemmas.List.Elements.{All-push}
use Rattle.run_whole.specs.declared.worker_thread.Done.{Done}
use Rattle.run_whole.specs.Work.{HasKept}
use Rattle.run_whole.proofs.starting.join_all.Goals as goal

pub loop-one-preserved : goal.loop-one-preserved
loop-one-preserved g c =
    let was = c.loop-one.invariant in let step = c.in-Some.ensures.steps in
    let P : Done g.row.L.Denot g.row.W.Denot → Type 0 = HasKept g.W.Keeper.has_heard in (
      search rules,
      rw c.push_reserved.ensures.items (All-push P c.loop-one.all.items c.join_one.result was.1 c.join_one.ensures),
      (λ k d below. let h = was.2 (k + 1) d in grind rules),
      search rules,
    )
