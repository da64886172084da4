use Rattle.std.proofs.Common.{◌≡◌, ◌++◌, map, drop}
use Rattle.run_plan.specs.Listed.{listed_from}
use Rattle.run_plan.specs.Rows.{listed_row}
use Rattle.run_plan.proofs.rows.rows_of.Given as goal

abbrev pub invariant-loop-binary : goal.invariant-loop-binary
invariant-loop-binary l = record {
  place : l.place ≡ l.binary-index;
  is : map listed_row l.rows.items ++ listed_from l.place (drop l.binary-index l.binaries) ≡ listed_from 0 l.binaries;
}
