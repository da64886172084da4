use Rattle.std.proofs.Common.{◌≡◌, take}
use Rattle.run_admission.specs.Kept.{nobody}
use Rattle.run_admission.specs.Ordered.{at_places}
use Rattle.run_admission.proofs.order.claims_in.Given as goal

abbrev pub invariant-loop-test : goal.invariant-loop-test
invariant-loop-test l = l.ordered.items ≡ at_places nobody.0 l.claims (take l.test-index l.order)
