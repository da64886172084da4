use Rattle.std.proofs.Common.{◌≡◌, ◌-◌, ◌≤◌, length, drop, true}
use Rattle.run_output.specs.Rows.{ascend}
use Rattle.run_output.proofs.rows.are_in_order.Given as goal

abbrev pub invariant-loop-at : goal.invariant-loop-at
invariant-loop-at g l = (1 ≤ l.at) × (ascend (drop (l.at - 1) l.fields) ≡ true → ascend l.fields ≡ true)

abbrev pub decreases-loop-at : goal.decreases-loop-at
decreases-loop-at g l = length l.fields - l.at
