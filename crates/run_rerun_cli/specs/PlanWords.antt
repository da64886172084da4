-- The words of the program of reruns.
use Rattle.std.specs.Prelude.{ℕ, ◌≡◌, List, [], ◌∷◌, codes, Option, Some, None}

-- a command, and the names of stores: one at least
abbrev pub IsCallOf : List ℕ → List (List ℕ) → List (List ℕ) → Type 0
IsCallOf command words names = (words ≡ command ∷ names) × (names ≡ [] → ⊥)

-- the word `plan`, and the names of the stores of a chain, oldest first; and the word `shards`, and those of shards
abbrev pub IsPlanOf : List (List ℕ) → List (List ℕ) → Type 0
IsPlanOf words names = IsCallOf (codes "plan") words names

abbrev pub IsShardsOf : List (List ℕ) → List (List ℕ) → Type 0
IsShardsOf words names = IsCallOf (codes "shards") words names

-- the names that words say after a command, or that they say none
abbrev pub SaysNames : List ℕ → List (List ℕ) → Option (List (List ℕ)) → Type 0
SaysNames command words (Some names) = IsCallOf command words names
SaysNames command words None = (names : List (List ℕ)) → ¬ IsCallOf command words names
