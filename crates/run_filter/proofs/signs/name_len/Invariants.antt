use Rattle.std.proofs.Common.{◌≡◌, ◌≤◌, ◌+◌, ◌-◌, length, drop}
use Rattle.run_filter.specs.Signs.{name_len}
use Rattle.run_filter.proofs.signs.name_len.Given as goal

abbrev pub invariant-loop-count : goal.invariant-loop-count
invariant-loop-count l = record {
  name : name_len l.rest ≡ name_len (drop l.count l.rest) + l.count;
  end : l.count ≤ length l.rest;
}

abbrev pub decreases-loop-count : goal.decreases-loop-count
decreases-loop-count l = length l.rest - l.count
