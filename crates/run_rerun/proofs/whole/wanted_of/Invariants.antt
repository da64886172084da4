use Rattle.std.proofs.Common.{◌≡◌, take}
use Rattle.run_rerun.specs.Shards.{wanted_of}
use Rattle.run_rerun.proofs.whole.wanted_of.Given as goal

abbrev pub invariant-loop-test : goal.invariant-loop-test
invariant-loop-test l = l.wanted.items ≡ wanted_of (take l.test-index l.tests)
