use Rattle.std.proofs.Common.{◌≡◌, ◌≤◌, take}
use Rattle.run_shared.specs.Orders.{signal_count}
use Rattle.run_shared.proofs.orders.count_signals.Given as goal

abbrev pub invariant-loop-asked : goal.invariant-loop-asked
invariant-loop-asked l = (l.count ≡ signal_count (take l.asked-index l.asks)) × (l.count ≤ l.asked-index)
