use Rattle.std.proofs.Common.{◌≡◌, ◌≤◌, length}
use Rattle.run_profile.specs.Time.{with_parts}
use Rattle.run_profile.proofs.time.sum_of_parts.Given as goal

abbrev pub invariant-loop-most : goal.invariant-loop-most
invariant-loop-most l =
    (with_parts l.most l.text l.at l.sum ≡ with_parts (length l.text) l.text l.start 0) × (l.at ≤ length l.text)

abbrev pub decreases-loop-most : goal.decreases-loop-most
decreases-loop-most l = l.most
