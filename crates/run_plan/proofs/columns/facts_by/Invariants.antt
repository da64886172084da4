use Rattle.std.proofs.Common.{map, take}
use Rattle.run_plan.specs.Columns.{AreSeen}
use Rattle.run_plan.specs.Rows.{listed_row}
use Rattle.run_plan.proofs.columns.facts_by.Given as goal

abbrev pub invariant-loop-place : goal.invariant-loop-place
invariant-loop-place l = AreSeen (map listed_row (take l.place l.rows)) l.groups l.in_default l.tests.items
