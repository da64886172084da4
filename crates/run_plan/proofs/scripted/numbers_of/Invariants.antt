use Rattle.std.proofs.Common.{◌≡◌, ◌++◌, map, drop}
use Rattle.run_plan.specs.Rows.{asked_row}
use Rattle.run_plan.specs.Scripted.{script_numbers}
use Rattle.run_plan.proofs.scripted.numbers_of.Given as goal

abbrev pub invariant-loop-script : goal.invariant-loop-script
invariant-loop-script l = record {
  number : l.number ≡ l.script-index;
  is : l.numbers ++ script_numbers l.profile l.picks (asked_row l.row, l.is_in) l.number
      (drop l.script-index (map (λ s. s.now) l.scripts))
      ≡ script_numbers l.profile l.picks (asked_row l.row, l.is_in) 0 (map (λ s. s.now) l.scripts);
}
