use Rattle.std.proofs.Common.{◌≡◌, map, take}
use Rattle.run_plan.specs.Scripted.{in_order}
use Rattle.run_plan.proofs.scripted.in_order.Given as goal

abbrev pub invariant-loop-name : goal.invariant-loop-name
invariant-loop-name l =
    map (λ s. s.now) l.found.items ≡ in_order (take l.name-index l.names) (map (λ s. s.now) l.scripts)
