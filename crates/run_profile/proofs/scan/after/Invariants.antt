use Rattle.std.proofs.Common.{◌≡◌, ◌≤◌, ◌-◌, length}
use Rattle.run_profile.specs.Scan.{after_bytes}
use Rattle.run_profile.proofs.scan.after.Given as goal

abbrev pub invariant-loop-place : goal.invariant-loop-place
invariant-loop-place l =
    (after_bytes l.kind l.text l.place ≡ after_bytes l.kind l.text l.at) × (l.at ≤ l.place) × (l.place ≤ length l.text)

abbrev pub decreases-loop-place : goal.decreases-loop-place
decreases-loop-place l = length l.text - l.place
