use Rattle.std.proofs.Common.{◌≡◌, length}
use Rattle.run_tests_threads.proofs.plans.tests.Given as goal

abbrev pub invariant-loop-number : goal.invariant-loop-number
invariant-loop-number g l = length l.tests ≡ l.number
