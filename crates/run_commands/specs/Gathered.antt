-- The words that were read so far.
use Rattle.std.specs.Prelude.{ℕ, List, [], Option, Some, None}

-- the words that ended, and the one that is open, where one is
pub record Gathered : Type 0 where
  pub ended : List (List ℕ)
  pub open_word : Option (List ℕ)

-- what an open word has so far
abbrev pub word_so_far : Option (List ℕ) → List ℕ
word_so_far None = []
word_so_far (Some word) = word
