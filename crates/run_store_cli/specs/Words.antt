-- The words of the program of stores.
use Rattle.std.specs.Prelude.{ℕ, ◌≡◌, List, [], ◌∷◌, codes}

-- the word that records an input, and the one that plays a store
abbrev pub IsRecordWord : List (List ℕ) → Type 0
IsRecordWord words = words ≡ codes "record" ∷ []

abbrev pub IsPlayWord : List (List ℕ) → Type 0
IsPlayWord words = words ≡ codes "play" ∷ []
