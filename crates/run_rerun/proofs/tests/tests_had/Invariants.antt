use Rattle.std.proofs.Common.{◌≡◌, ◌+◌, ◌++◌, length, drop}
use Rattle.run_rerun.specs.Outstanding.{matched_from, tests_had}
use Rattle.run_rerun.proofs.tests.tests_had.Given as goal

abbrev pub invariant-loop-test : goal.invariant-loop-test
invariant-loop-test l =
    (l.unit ≡ length l.plan.scripts + l.test-index)
    × (l.had.items ++ matched_from l.unit (drop l.test-index l.plan.tests) ≡ tests_had l.plan)
