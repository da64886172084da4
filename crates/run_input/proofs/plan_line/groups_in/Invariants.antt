use Rattle.std.proofs.Common.{◌≡◌, ◌++◌, drop, option_map}
use Rattle.serde_json.specs.View.{items_view}
use Rattle.run_input.specs.PlanLine.{groups_from}
use Rattle.run_input.proofs.plan_line.groups_in.Given as goal

abbrev pub invariant-loop-item : goal.invariant-loop-item
invariant-loop-item l =
    option_map (λ groups. l.groups ++ groups) (groups_from (items_view (drop l.item-index l.items)))
    ≡ groups_from (items_view l.items)
