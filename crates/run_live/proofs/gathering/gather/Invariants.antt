use Rattle.std.proofs.Common.{◌≡◌, ◌+◌, vec_len, length}
use Rattle.std.specs.List.{All, sum_by}
use Rattle.std.specs.Vec.Iter.{into_iter_items, into_iter_len}
use Rattle.run_live.specs.Work.{HasWorked, IsGathered}
use Rattle.run_live.proofs.gathering.gather.Given as goal

abbrev pub invariant-loop-one : goal.invariant-loop-one
invariant-loop-one g l =
    IsGathered g.W.Spawner.has_said l.all.workers.items l.all.receipts l.all.refused
    (sum_by (λ s. s.parts) l.all.shares.items)
    (sum_by (λ s. s.amount) l.all.shares.items)
    × (length l.all.workers.items + into_iter_len l.one-iterator ≡ vec_len l.fn.done)
    × All (HasWorked g.W.Spawner.has_said)
    (into_iter_items l.one-iterator)
