use Rattle.std.proofs.Common.{◌≡◌, ◌≤◌, bytes_eq, drop, false, length}
use Rattle.std.specs.List.{list_any}
use Rattle.run_junit.proofs.suites.behind_named.Given as goal

abbrev pub invariant-loop-at : goal.invariant-loop-at
invariant-loop-at l = record {
  within : l.at ≤ length l.suites;
  none : list_any (λ suite. bytes_eq suite.name l.name) (drop l.at l.suites) ≡ false;
}

abbrev pub decreases-loop-at : goal.decreases-loop-at
decreases-loop-at l = l.at
