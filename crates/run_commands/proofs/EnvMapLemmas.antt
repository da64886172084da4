-- The entries of a map, by name.
use Rattle.std.proofs.Common.{◌≡◌, ℕ, List, [], ◌∷◌, ◌∙◌, map, ap, refl}
use Rattle.std.specs.BTreeMap.{insert_entry}
use Rattle.std.specs.Cmp.Lexicographic.{slice_cmp}
use Rattle.std.specs.List.{AllByRecursion}
use Rattle.std.specs.List.Sorted.{IsStrictlySortedBy}
use Rattle.std.specs.Map.{keys_of}
use Rattle.std.specs.Ordering.{nat_cmp, match_ordering}
use Rattle.std.specs.String.{string_bytes, string_cmp}
use Rattle.std.specs.declared.alloc.Global.{Global}
use Rattle.std.specs.declared.cmp.Ordering.{Ordering}
use Rattle.std.specs.declared.cmp.Ordering.TheVariants.{Less, Equal, Greater}
use Rattle.std.specs.declared.string.String.{String}
use Rattle.run_commands.specs.EnvGiven.{set_pair}
use Rattle.run_commands.specs.EnvMap.{IsByName, pairs_in}

-- keys above a key have its bytes below theirs
all_below : (key : String Global) (entries : List (String Global × List ℕ))
    → AllByRecursion (λ k. string_cmp key k ≡ Less) (keys_of entries)
    → AllByRecursion (λ k. slice_cmp nat_cmp (string_bytes key) k ≡ Less) (map (λ p. p.0) (pairs_in entries))
all_below key [] all = all
all_below key (entry ∷ entries) all = (all.0, all_below key entries all.1)

-- entries whose keys ascend make pairs by name
pub by_name : (entries : List (String Global × List ℕ)) → IsStrictlySortedBy string_cmp (keys_of entries)
    → IsByName (pairs_in entries)
unfolding IsStrictlySortedBy
by_name [] sorted = sorted
by_name (entry ∷ entries) sorted = (all_below entry.0 entries sorted.0, by_name entries sorted.1)

-- the pairs of one of three lists
pairs-match_ordering : (o : Ordering) (a b c : List (String Global × List ℕ))
    → pairs_in (match_ordering o a b c) ≡ match_ordering o (pairs_in a) (pairs_in b) (pairs_in c)
pairs-match_ordering Less a b c = refl
pairs-match_ordering Equal a b c = refl
pairs-match_ordering Greater a b c = refl

-- an entry that is set is a pair that is set
pub pairs-insert_entry : (entries : List (String Global × List ℕ)) (key : String Global) (value : List ℕ)
    → pairs_in (insert_entry string_cmp entries key value) ≡ set_pair (pairs_in entries) (string_bytes key, value)
pairs-insert_entry [] key value = refl
pairs-insert_entry (entry ∷ entries) key value =
    pairs-match_ordering (string_cmp key entry.0) _ _ _ ∙ rw (pairs-insert_entry entries key value)

-- entries with one set have the pair set
pub sets_pair : (key : String Global) (old new : List (String Global × List ℕ)) (name value stored : List ℕ)
    → string_bytes key ≡ name → stored ≡ value → new ≡ insert_entry string_cmp old key stored
    → pairs_in new ≡ set_pair (pairs_in old) (name, value)
sets_pair key old new name value stored is_name is_value set =
    ap pairs_in set ∙ pairs-insert_entry old key stored
    ∙ ap (λ bytes. set_pair (pairs_in old) (bytes, stored)) is_name
    ∙ ap (λ bytes. set_pair (pairs_in old) (name, bytes)) is_value
