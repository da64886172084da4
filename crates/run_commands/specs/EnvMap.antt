-- The variables that lines set, by name.
use Rattle.std.specs.Prelude.{ℕ, ◌≡◌, List, map, reverse, Option, Some, if◌then◌else◌}
use Rattle.std.specs.Ordering.{nat_cmp}
use Rattle.std.specs.Cmp.Lexicographic.{slice_cmp}
use Rattle.std.specs.List.Sorted.{IsStrictlySortedBy}
use Rattle.std.specs.Map.{lookup}
use Rattle.std.specs.Str.{bytes_eq}
use Rattle.std.specs.BTreeMap.{BTreeMap, IsOrdered, get_by_text}
use Rattle.std.specs.String.{string_bytes, string_cmp}
use Rattle.std.specs.declared.string.String.{String}
use Rattle.std.specs.declared.alloc.Global.{Global}
use Rattle.run_commands.specs.Pair.{Pair}

-- the value of the first pair with this name
abbrev pub value_of : List ℕ → List Pair → Option (List ℕ)
value_of name pairs = lookup (bytes_eq name) pairs

-- each name is above the one before it, so no name comes twice
abbrev pub IsByName : List Pair → Type 0
IsByName pairs = IsStrictlySortedBy (slice_cmp nat_cmp) (map (λ p. p.0) pairs)

-- the pairs by name, of those with one name the last
pub record IsLatest (given pairs : List Pair) : Type 0 where
  pub by_name : IsByName pairs
  pub latest : (name : List ℕ) → value_of name pairs ≡ value_of name (reverse given)

-- the pairs of a map's entries
abbrev pub pairs_in : List (String Global × List ℕ) → List Pair
pairs_in entries = map (λ e. (string_bytes e.0, e.1)) entries

-- the value of this name, in a map whose keys ascend
abbrev pub value_in : List ℕ → BTreeMap (String Global) (List ℕ) → Option (List ℕ)
value_in name entries = get_by_text entries name

-- this name has this value now, and each other name has what it had
pub record SetsVariable (old new : BTreeMap (String Global) (List ℕ)) (name value : List ℕ) : Type 0 where
  pub ordered : IsOrdered string_cmp new
  pub values : (other : List ℕ) → value_in other new ≡ (if bytes_eq other name then Some value else value_in other old)
