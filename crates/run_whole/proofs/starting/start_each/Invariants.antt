use Rattle.std.proofs.Common.{◌≡◌, ◌+◌, ◌≤◌, vec_capacity, [], vec_len}
use Rattle.std.specs.Result.{IfErr}
use Rattle.std.specs.List.{All}
use Rattle.std.specs.Vec.Iter.{into_iter_items, into_iter_len}
use Rattle.run_whole.specs.Work.{HasKept, IsJobReady}
use Rattle.run_whole.proofs.starting.start_each.Given as goal

abbrev pub invariant-loop-job : goal.invariant-loop-job
invariant-loop-job g l =
    (vec_len l.all + into_iter_len l.job-iterator ≡ vec_len l.fn.jobs)
    × All (λ r. IfErr r (HasKept g.W.Keeper.has_heard)) l.all.items
    × All (IsJobReady g.W.Keeper.has_heard)
    (into_iter_items l.job-iterator)
    × (vec_len l.fn.jobs ≤ vec_capacity l.all)
