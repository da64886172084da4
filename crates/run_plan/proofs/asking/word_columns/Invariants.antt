use Rattle.std.proofs.Common.{◌≡◌, Some, take}
use Rattle.std.specs.List.{AllZip}
use Rattle.run_plan.specs.Asks.{FilterSays}
use Rattle.run_plan.proofs.asking.word_columns.Given as goal

abbrev pub invariant-loop-text : goal.invariant-loop-text
invariant-loop-text l = record {
  number : l.number ≡ l.text-index;
  says : AllZip (λ text. AllZip (FilterSays (Some text)) l.tests) (take l.text-index l.filters) l.columns;
}
