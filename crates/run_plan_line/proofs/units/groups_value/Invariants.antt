use Rattle.std.proofs.Common.{◌≡◌, ◌<◌, ℕ, map, slice_index_or, take}
use Rattle.serde_json.specs.View.{view}
use Rattle.run_events.specs.declared.plan.Group.{Group}
use Rattle.run_plan_line.specs.PlanFields.{group_object}
use Rattle.run_plan_line.specs.SaidPlan.{IsReadGroup}
use Rattle.run_plan_line.proofs.units.groups_value.Given as goal

abbrev pub invariant-loop-group : goal.invariant-loop-group
invariant-loop-group l = record {
  is : map view l.values.items ≡ map group_object (take l.group-index l.groups);
  read : (k : ℕ) (d : Group) → k < l.group-index → IsReadGroup (slice_index_or l.groups k d);
}
