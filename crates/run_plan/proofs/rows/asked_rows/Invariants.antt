use Rattle.std.proofs.Common.{◌≡◌, map, take}
use Rattle.std.specs.List.{zip}
use Rattle.run_plan.specs.Rows.{asked_row, listed_row}
use Rattle.run_plan.proofs.rows.asked_rows.Given as goal

abbrev pub invariant-loop-place : goal.invariant-loop-place
invariant-loop-place l = map asked_row l.both.items ≡ take l.place (zip (map listed_row l.rows) l.asked)
