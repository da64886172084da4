use Rattle.std.proofs.Common.{◌≡◌, ◌+◌, vec_len, length}
use Rattle.std.specs.List.{All, sum_by}
use Rattle.std.specs.Vec.Iter.{into_iter_items, into_iter_len}
use Rattle.run_whole.specs.Work.{HasKept, IsCollected}
use Rattle.run_whole.proofs.gathering.gather.Given as goal

abbrev pub invariant-loop-one : goal.invariant-loop-one
invariant-loop-one g l =
    IsCollected g.W.Keeper.has_heard l.all.workers.keepers.items l.all.receipts l.all.workers.lost
    l.all.workers.orders 0 (sum_by (λ s. s.parts) l.all.shares.items)
    (sum_by (λ s. s.amount) l.all.shares.items)
    × (length l.all.workers.keepers.items + into_iter_len l.one-iterator ≡ vec_len l.fn.done)
    × All (HasKept g.W.Keeper.has_heard)
    (into_iter_items l.one-iterator)
