use Rattle.std.proofs.Common.{◌≡◌, ◌≤◌, ◌-◌, length, drop}
use Rattle.run_filter.specs.Signs.{skip}
use Rattle.run_filter.proofs.signs.skip.Given as goal

abbrev pub invariant-loop-place : goal.invariant-loop-place
invariant-loop-place l = record {
  rest : skip (drop l.place l.text) ≡ skip (drop l.at l.text);
  start : l.at ≤ l.place;
  end : l.place ≤ length l.text;
}

abbrev pub decreases-loop-place : goal.decreases-loop-place
decreases-loop-place l = length l.text - l.place
