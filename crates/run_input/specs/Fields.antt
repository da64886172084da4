-- The fields of an object, each read or refused.
use Rattle.std.specs.Prelude.{ℕ, ◌^◌, ℤ, pos, negsuc, Bool, true, false, ◌&&◌, ◌||◌, List, [], ◌∷◌, Option, Some, None}
use Rattle.std.specs.Prelude.{option_map, option_and_then, unwrap_or, if◌then◌else◌, nat_eq, nat_lt, int_le}
use Rattle.serde_json.specs.Data.{Data, Items, no_items, item, Members, no_members, member}
use Rattle.serde_json.specs.Find.{as_str, as_bool, as_number, as_u64, as_i64, as_array, as_object}
use lib.Pointwise.{pointwise}

infixl 10 ◌>>=◌
-- the next step reads on from a value, and a refusal stays one
abbrev pub ◌>>=◌ : {A B : Type 0} → Option A → (A → Option B) → Option B
o >>= f = option_and_then f o

-- refuses where the test fails
abbrev pub when : Bool → Option (Unit {0})
when b = if b then Some tt else None

-- whether a key is one of the names
abbrev pub is_one_of : List ℕ → List (List ℕ) → Bool
is_one_of key [] = false
is_one_of key (name ∷ names) = pointwise nat_eq key name || is_one_of key names

-- whether each key is one of the names
abbrev pub has_only : List (List ℕ) → Members → Bool
has_only names no_members = true
has_only names (member key d ms) = is_one_of key names && has_only names ms

-- whether a value is an object with no key but the names
abbrev pub is_object_of : List (List ℕ) → Data → Bool
is_object_of names d = unwrap_or (option_map (has_only names) (as_object d)) false

-- a value that may be missing, and is read where it is there
abbrev pub optional : {A : Type 0} → (Data → Option A) → Option Data → Option (Option A)
optional f None = Some None
optional f (Some d) = option_map Some (f d)

-- a value that may be missing, and is then the usual one
abbrev pub or_usual : {A : Type 0} → A → (Data → Option A) → Option Data → Option A
or_usual usual f None = Some usual
or_usual usual f (Some d) = f d

-- a number of 32 bits, without a sign
abbrev pub u32_of : Data → Option ℕ
u32_of d = option_and_then (λ n. if nat_lt n (2 ^ 32) then Some n else None) (option_and_then as_u64 (as_number d))

-- a number of 64 bits, without a sign
abbrev pub u64_of : Data → Option ℕ
u64_of d = option_and_then as_u64 (as_number d)

-- a truth value
abbrev pub truth_of : Data → Option Bool
truth_of d = as_bool d

-- a number of 32 bits, with a sign
abbrev pub i32_of : Data → Option ℤ
i32_of d = option_and_then (λ z. if int_le (negsuc 2147483647) z && int_le z (pos 2147483647) then Some z else None)
    (option_and_then as_i64 (as_number d))

-- the texts of items, each of which is one
abbrev pub texts_from : Items → Option (List (List ℕ))
texts_from no_items = Some []
texts_from (item d ds) = do
  text ← as_str d
  texts ← texts_from ds
  Some (text ∷ texts)

-- a list of texts
abbrev pub texts_of : Data → Option (List (List ℕ))
texts_of d = option_and_then texts_from (as_array d)

-- the numbers of items, each of which is one of 32 bits
abbrev pub numbers_from : Items → Option (List ℕ)
numbers_from no_items = Some []
numbers_from (item d ds) = do
  number ← u32_of d
  numbers ← numbers_from ds
  Some (number ∷ numbers)

-- a list of numbers of 32 bits
abbrev pub numbers_of : Data → Option (List ℕ)
numbers_of d = option_and_then numbers_from (as_array d)
