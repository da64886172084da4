use Rattle.std.proofs.Common.{◌≡◌, map, take}
use Rattle.run_rerun.specs.Shards.{unparted}
use Rattle.run_rerun.proofs.whole.all_unparted.Given as goal

abbrev pub invariant-loop-test : goal.invariant-loop-test
invariant-loop-test l = l.whole.items ≡ map unparted (take l.test-index l.tests)
