-- The bytes that a source has left and a sink has taken, where they are told: None tells nothing.
use Rattle.std.specs.Prelude.{ℕ, ◌≡◌, List, [], ◌++◌, Option, option_map}

-- these bytes were taken last
abbrev pub Takes : Option (List ℕ) → Option (List ℕ) → List ℕ → Type 0
Takes before after bytes = after ≡ option_map (λ taken. taken ++ bytes) before

-- these bytes were given, and then no more of what was left before is missing
abbrev pub Gives : Option (List ℕ) → Option (List ℕ) → List ℕ → Type 0
Gives before after bytes = before ≡ option_map (λ left. bytes ++ left) after

-- nothing is left
abbrev pub AtEnd : Option (List ℕ) → Type 0
AtEnd left = left ≡ option_map (λ _. []) left
