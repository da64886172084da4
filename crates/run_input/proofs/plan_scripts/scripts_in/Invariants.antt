use Rattle.std.proofs.Common.{◌≡◌, ◌++◌, drop, option_map}
use Rattle.serde_json.specs.View.{items_view}
use Rattle.run_input.specs.PlanScripts.{scripts_from}
use Rattle.run_input.proofs.plan_scripts.scripts_in.Given as goal

abbrev pub invariant-loop-item : goal.invariant-loop-item
invariant-loop-item l =
    option_map (λ scripts. l.scripts ++ scripts) (scripts_from (items_view (drop l.item-index l.items)))
    ≡ scripts_from (items_view l.items)
