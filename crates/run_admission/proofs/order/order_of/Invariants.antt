use Rattle.std.proofs.Common.{◌≡◌, map, take}
use Rattle.run_admission.proofs.order.order_of.Given as goal

abbrev pub invariant-loop-rank : goal.invariant-loop-rank
invariant-loop-rank l = l.order.items ≡ map (λ r. r.1) (take l.rank-index l.rank-items)
