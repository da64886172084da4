use Rattle.std.proofs.Common.{◌≡◌, ◌<◌, ℕ, get_or, true, false}
use Rattle.std.specs.Option.{IsSome}
use Rattle.run_shared.specs.Orders.{errand_at}
use Rattle.run_shared.proofs.order_check.find_lost.Given as goal

abbrev pub invariant-loop-place : goal.invariant-loop-place
invariant-loop-place l = (k : ℕ) → k < l.place → IsSome (errand_at l.asks k) → get_or l.seen k false ≡ true
