use Rattle.std.proofs.Common.{◌≡◌, ◌≤◌, take}
use Rattle.run_model.specs.Info.{stops_in}
use Rattle.run_unit.proofs.info.stops_in.Given as goal

-- how many of those that were passed are stops
abbrev pub invariant-loop-request : goal.invariant-loop-request
invariant-loop-request l = (l.stops ≡ stops_in (take l.request-index l.line)) × (l.stops ≤ l.request-index)
