use Rattle.std.proofs.Common.{◌≡◌, ◌++◌, drop, option_map}
use Rattle.serde_json.specs.View.{items_view}
use Rattle.run_input.specs.PlanLine.{tests_from}
use Rattle.run_input.proofs.plan_line.tests_in.Given as goal

abbrev pub invariant-loop-item : goal.invariant-loop-item
invariant-loop-item l =
    option_map (λ tests. l.tests ++ tests) (tests_from l.version (items_view (drop l.item-index l.items)))
    ≡ tests_from l.version (items_view l.items)
