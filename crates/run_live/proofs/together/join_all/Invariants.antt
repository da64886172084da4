use Rattle.std.proofs.Common.{◌≡◌, ◌+◌, ◌≤◌, vec_capacity, vec_len}
use Rattle.std.specs.Result.{IfErr}
use Rattle.std.specs.List.{All}
use Rattle.std.specs.Vec.Iter.{into_iter_items, into_iter_len}
use Rattle.run_live.specs.Work.{HasWorked}
use Rattle.run_live.proofs.together.join_all.Given as goal

abbrev pub invariant-loop-one : goal.invariant-loop-one
invariant-loop-one g l =
    (vec_len l.all + into_iter_len l.one-iterator ≡ vec_len l.fn.running)
    × All (HasWorked g.W.Spawner.has_said) l.all.items
    × All (λ r. IfErr r (HasWorked g.W.Spawner.has_said))
    (into_iter_items l.one-iterator)
    × (vec_len l.fn.running ≤ vec_capacity l.all)
