use Rattle.std.proofs.Common.{◌≡◌, ◌<◌, ℕ, map, slice_index_or, take}
use Rattle.serde_json.specs.View.{view}
use Rattle.run_events.specs.declared.plan.PlanScript.{PlanScript}
use Rattle.run_plan_line.specs.PlanFields.{script_object}
use Rattle.run_plan_line.specs.SaidPlan.{IsReadScript}
use Rattle.run_plan_line.proofs.units.scripts_value.Given as goal

abbrev pub invariant-loop-script : goal.invariant-loop-script
invariant-loop-script l = record {
  is : map view l.values.items ≡ map script_object (take l.script-index l.scripts);
  read : (k : ℕ) (d : PlanScript) → k < l.script-index → IsReadScript (slice_index_or l.scripts k d);
}
