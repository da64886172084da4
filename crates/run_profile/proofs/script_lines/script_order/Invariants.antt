use Rattle.std.proofs.Common.{◌≡◌, ◌≤◌, ◌+◌, ◌-◌, length, Some, []}
use Rattle.run_profile.specs.ScriptOrder.{order_from}
use Rattle.run_profile.proofs.script_lines.script_order.Given as goal

abbrev pub invariant-loop-place : goal.invariant-loop-place
invariant-loop-place l =
    (order_from l.text (length l.text - l.place) (l.place + 1) (Some l.seen)
    ≡ order_from l.text (length l.text) 1 (Some [])) × (l.place ≤ length l.text)

abbrev pub decreases-loop-place : goal.decreases-loop-place
decreases-loop-place l = length l.text - l.place
