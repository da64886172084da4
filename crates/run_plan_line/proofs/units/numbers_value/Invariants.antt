use Rattle.std.proofs.Common.{◌≡◌, ◌<◌, ◌^◌, ℕ, map, slice_index_or, take}
use Rattle.serde_json.specs.View.{view}
use Rattle.run_output.specs.Fields.{count}
use Rattle.run_plan_line.proofs.units.numbers_value.Given as goal

abbrev pub invariant-loop-number : goal.invariant-loop-number
invariant-loop-number l = record {
  is : map view l.values.items ≡ map count (take l.number-index l.numbers);
  fits : (k d : ℕ) → k < l.number-index → slice_index_or l.numbers k d < 2 ^ 32;
}
