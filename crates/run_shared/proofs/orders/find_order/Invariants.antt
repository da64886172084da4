use Rattle.std.proofs.Common.{◌≡◌, ◌≤◌, ◌<◌, ℕ, None}
use Rattle.run_shared.specs.Orders.{errand_at, signal_to}
use Rattle.run_shared.proofs.orders.find_order.Given as goal

abbrev pub invariant-loop-place : goal.invariant-loop-place
invariant-loop-place l =
    (k : ℕ) → l.from ≤ k → k < l.place → signal_to l.unit (errand_at l.asks k) ≡ None
