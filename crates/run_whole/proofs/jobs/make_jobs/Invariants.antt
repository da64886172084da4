use Rattle.std.proofs.Common.{◌≡◌, ◌+◌, ◌≤◌, vec_capacity, [], vec_len}
use Rattle.std.specs.List.{All}
use Rattle.std.specs.Vec.Iter.{into_iter_items, into_iter_len}
use Rattle.run_live.specs.Work.{IsOneEmpty}
use Rattle.run_whole.specs.Work.{IsJobReady}
use Rattle.run_whole.proofs.jobs.make_jobs.Given as goal

abbrev pub invariant-loop-share : goal.invariant-loop-share
invariant-loop-share g l =
    (vec_len l.jobs + into_iter_len l.share-iterator ≡ vec_len l.fn.shares)
    × All (IsJobReady g.H.Worker.Keeper.has_heard) l.jobs.items
    × All (λ s. IsOneEmpty s.parts s.amount) (into_iter_items l.share-iterator)
    × (vec_len l.fn.shares ≤ vec_capacity l.jobs)
