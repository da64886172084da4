use Rattle.std.proofs.Common.{◌≡◌, ◌++◌, map, length}
use Rattle.std.specs.Vec.Iter.{into_iter_items, into_iter_len}
use Rattle.serde_json.specs.View.{view}
use Rattle.run_rerun.specs.Made.{made_test}
use Rattle.run_rerun.proofs.made.made_items.Given as goal

abbrev pub invariant-loop-test : goal.invariant-loop-test
invariant-loop-test l =
    (map view l.made.items ++ map (λ v. made_test l.ids.keys (view v)) (into_iter_items l.test-iterator)
    ≡ map (λ v. made_test l.ids.keys (view v)) l.fn.tests.items)
    × (into_iter_len l.test-iterator ≡ length (into_iter_items l.test-iterator))
