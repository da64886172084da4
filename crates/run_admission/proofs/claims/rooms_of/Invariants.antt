use Rattle.std.proofs.Common.{◌≡◌, map, take}
use Rattle.std.specs.List.{zip}
use Rattle.run_admission.specs.Kept.{unused}
use Rattle.run_admission.proofs.claims.rooms_of.Given as goal

abbrev pub invariant-loop-place : goal.invariant-loop-place
invariant-loop-place l = l.rooms.items ≡ map (λ r. unused r.0 r.1.limit) (take l.place (zip l.slots l.groups))
