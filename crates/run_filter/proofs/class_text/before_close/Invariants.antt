use Rattle.std.proofs.Common.{◌≡◌, ◌≤◌, ◌+◌, ◌-◌, ◌==◌, not, drop, length}
use Rattle.std.specs.List.{prefix_len}
use Rattle.run_filter.proofs.class_text.before_close.Given as goal

abbrev pub invariant-loop-count : goal.invariant-loop-count
invariant-loop-count l =
    (l.count + prefix_len (λ d. not (d == 93)) (drop l.count l.text) ≡ prefix_len (λ d. not (d == 93)) l.text)
    × (l.count ≤ length l.text)

abbrev pub decreases-loop-count : goal.decreases-loop-count
decreases-loop-count l = length l.text - l.count
