use Rattle.std.proofs.Common.{◌≡◌, map, take}
use Rattle.run_plan.specs.Planned.{plan_group}
use Rattle.run_plan.proofs.planned.plan_groups.Given as goal

abbrev pub invariant-loop-group : goal.invariant-loop-group
invariant-loop-group l = l.list ≡ map (plan_group l.processors) (take l.group-index l.groups)
