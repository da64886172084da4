use Rattle.std.proofs.Common.{◌≡◌, ◌+◌, ◌-◌, length, drop}
use Rattle.run_output.specs.Rows.{row_place, has_key}
use Rattle.run_output.proofs.rows.place_of.Given as goal

abbrev pub invariant-loop-place : goal.invariant-loop-place
invariant-loop-place g l =
    (l.place + row_place l.key (drop l.place l.rows) ≡ row_place l.key l.rows)
    × (has_key l.key (drop l.place l.rows) ≡ has_key l.key l.rows)

abbrev pub decreases-loop-place : goal.decreases-loop-place
decreases-loop-place g l = length l.rows - l.place
