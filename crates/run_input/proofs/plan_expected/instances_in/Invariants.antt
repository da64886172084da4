use Rattle.std.proofs.Common.{◌≡◌, ◌++◌, drop, option_map}
use Rattle.serde_json.specs.View.{items_view}
use Rattle.run_input.specs.PlanExpected.{instances_from}
use Rattle.run_input.proofs.plan_expected.instances_in.Given as goal

abbrev pub invariant-loop-item : goal.invariant-loop-item
invariant-loop-item l =
    option_map (λ ids. l.ids ++ ids) (instances_from (items_view (drop l.item-index l.items)))
    ≡ instances_from (items_view l.items)
