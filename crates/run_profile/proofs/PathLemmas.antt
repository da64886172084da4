-- The path of a key.
use Rattle.std.proofs.Common.{ℕ, ◌≡◌, ◌==◌, List, [], ◌∷◌, ◌++◌, length, true, false, refl, arith}
use Rattle.std.proofs.lemmas.Bool.Decides.{nat_tests}
use Rattle.run_profile.specs.Refusals.{dotted}

pub dotted_empty : (path key : List ℕ) → (length path == 0) ≡ true → dotted path key ≡ key
dotted_empty [] key h = refl
dotted_empty (b ∷ path) key h = absurd (grind (arith, nat_tests))

pub dotted_some : (path key : List ℕ) → (length path == 0) ≡ false → dotted path key ≡ path ++ 46 ∷ key
dotted_some [] key h = absurd (grind (arith, nat_tests))
dotted_some (b ∷ path) key h = refl
