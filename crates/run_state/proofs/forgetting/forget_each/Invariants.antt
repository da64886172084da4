use Rattle.std.proofs.Common.{◌≡◌, ◌++◌, None, map, take, drop}
use Rattle.run_state.proofs.forgetting.forget_each.Given as goal

abbrev pub invariant-loop-unit : goal.invariant-loop-unit
invariant-loop-unit l =
    l.units ≡ map (λ _. None) (take l.unit-index l.initial.units) ++ drop l.unit-index l.initial.units
