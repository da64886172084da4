use Rattle.std.proofs.Common.{take}
use Rattle.run_admission.specs.Names.{HasPlaces}
use Rattle.run_admission.proofs.names.places_of.Given as goal

abbrev pub invariant-loop-place : goal.invariant-loop-place
invariant-loop-place l = HasPlaces (take l.place l.groups) l.places
