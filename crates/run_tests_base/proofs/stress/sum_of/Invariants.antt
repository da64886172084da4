use Rattle.std.proofs.Common.{◌≡◌, ◌≤◌}
use Rattle.run_tests_base.proofs.stress.sum_of.Given as goal

abbrev pub invariant-loop-last : goal.invariant-loop-last
invariant-loop-last l = (l.context.1.ended ≡ l.last-index) × (l.context.1.failed ≤ l.last-index)
