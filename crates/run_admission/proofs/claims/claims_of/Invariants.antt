use Rattle.std.proofs.Common.{◌≡◌, map, take}
use Rattle.run_admission.specs.InUse.{claim_of}
use Rattle.run_admission.proofs.claims.claims_of.Given as goal

abbrev pub invariant-loop-test : goal.invariant-loop-test
invariant-loop-test l = l.claims.items ≡ map (claim_of l.groups) (take l.test-index l.tests)
