-- Answers of which the first are no refusals.
use Rattle.std.proofs.Common.{◌≡◌, ℕ, zero, suc, ◌++◌, List, Bool, false, replicate, refl}
use Rattle.std.specs.List.{list_any}

-- they say nothing of whether one is a refusal
pub kept_any : (n : ℕ) (xs : List Bool)
    → list_any (λ refused. refused) xs ≡ list_any (λ refused. refused) (replicate n false ++ xs)
kept_any zero xs = refl
kept_any (suc n) xs = kept_any n xs
