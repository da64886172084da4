-- What a host in memory makes.
use Rattle.std.proofs.Common.{◌≡◌, ℕ, List, [], arith}
use Rattle.run_drive.specs.InMemory.{WereGiven}

pub told_nothing : (steps : List ℕ) (at : ℕ) → at ≡ 0 → WereGiven steps 1000000 at []
told_nothing steps at first = record { each = λ k below. absurd (omega (arith, below)); place = omega (arith, first) }
