use Rattle.std.proofs.Common.{◌≡◌, map, take}
use Rattle.run_rerun.proofs.tests.ids_of.Given as goal

abbrev pub invariant-loop-id : goal.invariant-loop-id
invariant-loop-id l = l.ids.items ≡ map (λ t. t.1) (take l.id-index l.fn.had.items)
