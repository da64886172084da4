-- The tests so far are those of the numbers so far.
use Rattle.std.proofs.Common.{◌≡◌, map}
use Rattle.std.specs.List.{range_with_len}
use Rattle.run_generate.specs.Plan.{test_at}
use Rattle.run_generate.proofs.plan.tests_of.Given as goal

abbrev pub invariant-loop-test : goal.invariant-loop-test
invariant-loop-test l = l.tests ≡ map test_at (range_with_len 0 l.test)
