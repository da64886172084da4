-- The least of numbers in a row, and the tree that finds it.
use Rattle.std.specs.Prelude.{ℕ, ◌+◌, ◌*◌, ◌≡◌, ◌<◌, ◌≤◌, ◌⊎◌, List, length, slice_index, min, drop}

-- in place of the least of no numbers
abbrev pub none : ℕ
none = 18446744073709551615

-- a number stands at one of these places
abbrev pub Stands : List ℕ → ℕ → ℕ → ℕ → Type 0
Stands values from to x = (k : ℕ) × (from ≤ k) × (k < to) × (slice_index values k ≡ x)

-- the least of the numbers at these places, or none
pub record IsLeast (values : List ℕ) (from to least : ℕ) : Type 0 where
  pub below : (k : ℕ) → from ≤ k → k < to → least ≤ slice_index values k
  pub there : (least ≡ none) ⊎ Stands values from to least

-- the first place whose number is at most so much, or the length
pub record IsFirstWithin (values : List ℕ) (limit first : ℕ) : Type 0 where
  pub inside : first ≤ length values
  pub above : (k : ℕ) → k < first → limit < slice_index values k
  pub found : first < length values → slice_index values first ≤ limit

-- a node is the lesser of the two nodes below it
abbrev pub IsLesser : List ℕ → ℕ → Type 0
IsLesser nodes i = slice_index nodes i ≡ min (slice_index nodes (2 * i)) (slice_index nodes (2 * i + 1))

-- the numbers are the second half of the nodes, and below the others
pub record IsTree (many : ℕ) (nodes : List ℕ) : Type 0 where
  pub two : length nodes ≡ 2 * many
  pub lesser : (i : ℕ) → 0 < i → i < many → IsLesser nodes i

-- what contracts see of it
abbrev pub leaves : ℕ → List ℕ → List ℕ
leaves many nodes = drop many nodes
