use Rattle.run_keep.specs.Halted.{Halts}
use Rattle.run_keep.proofs.halting.halt_rest.Given as goal

abbrev pub invariant-loop : goal.invariant-loop
invariant-loop g l = Halts g.H.Halter.has_halted l.initial.halter l.halter l.initial.stops.halts l.stops.halts
