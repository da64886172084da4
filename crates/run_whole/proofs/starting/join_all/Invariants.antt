use Rattle.std.proofs.Common.{◌≡◌, ◌+◌, ◌≤◌, vec_capacity, vec_len}
use Rattle.std.specs.Result.{IfErr}
use Rattle.std.specs.List.{All}
use Rattle.std.specs.Vec.Iter.{into_iter_items, into_iter_len}
use Rattle.run_whole.specs.Work.{HasKept}
use Rattle.run_whole.proofs.starting.join_all.Given as goal

abbrev pub invariant-loop-one : goal.invariant-loop-one
invariant-loop-one g l =
    (vec_len l.all + into_iter_len l.one-iterator ≡ vec_len l.fn.running)
    × All (HasKept g.W.Keeper.has_heard) l.all.items
    × All (λ r. IfErr r (HasKept g.W.Keeper.has_heard))
    (into_iter_items l.one-iterator)
    × (vec_len l.fn.running ≤ vec_capacity l.all)
