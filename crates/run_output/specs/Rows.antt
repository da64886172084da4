-- Keys in byte order, with what stands at each.
use Rattle.std.specs.Prelude.{ℕ, suc, List, [], ◌∷◌, Option, Bool, true, false, ◌&&◌}
use Rattle.std.specs.Borrow.{Bor}
use Rattle.std.specs.Ordering.{nat_cmp, match_ordering, is_gt}
use Rattle.std.specs.Cmp.Lexicographic.{slice_cmp}
use Rattle.serde_json.specs.Data.{Data, Members, no_members, member}
use Rattle.run_output.specs.Printer.{or_null}

-- they, as members
abbrev pub members_from : {F : Type 0} → (F → Option Data) → List (Bor (List ℕ) × F) → Members
members_from printed [] = no_members
members_from printed (row ∷ rows) = member row.0.now (or_null (printed row.1)) (members_from printed rows)

-- how many keys from the first on stand below a key
abbrev pub row_place : {F : Type 0} → List ℕ → List (Bor (List ℕ) × F) → ℕ
row_place key [] = 0
row_place key (row ∷ rows) = match_ordering (slice_cmp nat_cmp key row.0.now) 0 0 (suc (row_place key rows))

-- whether the first key that doesn't stand below a key is that key
abbrev pub has_key : {F : Type 0} → List ℕ → List (Bor (List ℕ) × F) → Bool
has_key key [] = false
has_key key (row ∷ rows) = match_ordering (slice_cmp nat_cmp key row.0.now) false true (has_key key rows)

-- whether the first key of these, if there is one, stands above a key
abbrev pub starts_above : {F : Type 0} → List ℕ → List (Bor (List ℕ) × F) → Bool
starts_above key [] = true
starts_above key (row ∷ rows) = is_gt (slice_cmp nat_cmp row.0.now key)

-- whether each key stands above the one before it
abbrev pub ascend : {F : Type 0} → List (Bor (List ℕ) × F) → Bool
ascend [] = true
ascend (row ∷ rows) = starts_above row.0.now rows && ascend rows
