use Rattle.std.proofs.Common.{◌≡◌, ◌++◌, map, take, drop, option_map}
use Rattle.run_model.specs.Unit.{reached}
use Rattle.run_state.proofs.broadcast.reach_each.Given as goal

abbrev pub invariant-loop-unit : goal.invariant-loop-unit
invariant-loop-unit l =
    l.units
    ≡ map (option_map (reached l.request)) (take l.unit-index l.initial.units) ++ drop l.unit-index l.initial.units
