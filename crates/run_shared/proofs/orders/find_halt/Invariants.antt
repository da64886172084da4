use Rattle.std.proofs.Common.{◌≢◌, ◌≤◌, ◌<◌, ℕ, Some}
use Rattle.run_shared.specs.declared.orders.Errand.TheVariants as errands
use Rattle.run_shared.specs.Orders.{errand_at}
use Rattle.run_shared.proofs.orders.find_halt.Given as goal

abbrev pub invariant-loop-place : goal.invariant-loop-place
invariant-loop-place l = (k : ℕ) → l.from ≤ k → k < l.place → errand_at l.asks k ≢ Some errands.Stop
