use Rattle.std.proofs.Common.{◌≡◌, map, take}
use Rattle.run_plan.specs.Scripted.{plan_script}
use Rattle.run_plan.proofs.scripted.plan_scripts.Given as goal

abbrev pub invariant-loop-script : goal.invariant-loop-script
invariant-loop-script l = l.plan ≡ map (plan_script l.list l.run_id) (map (λ s. s.now) (take l.script-index l.scripts))
