-- Places in lists: of what passes a test, of pairs, and of numbers in order.
use Rattle.std.proofs.Common.{◌≡◌, ℕ, zero, suc, ◌+◌, ◌<◌, ◌≤◌, ◌==◌, ◌||◌, List, [], ◌∷◌, map, length, Bool, true}
use Rattle.std.proofs.Common.{false, not, cond, Option, Some, None, is_some, nat_lt, slice_get, position, refl, ap, sym}
use Rattle.std.proofs.Common.{◌∙◌, arith, zero-add}
use Rattle.std.specs.Option.{option_map_or}
use Rattle.std.specs.List.{list_any, position_or_len, range_with_len, zip}
use Rattle.std.proofs.lemmas.Option.{same_Some, slice_get_within}
use Rattle.std.proofs.lemmas.List.FromFn.{get_or-range_with_len, length-map-range_with_len, length-range_with_len}
use Rattle.std.proofs.lemmas.List.Folds.{list_any_at, list_any_none}
use Rattle.std.proofs.lemmas.List.Quantifiers.{position-Some}
use Rattle.std.proofs.lemmas.List.Sums.{fails_before_first, prefix_len-le-length}
use Rattle.run_admission.specs.InUse.{Test, holds, least_free}

-- one of a list passes where one does
abbrev Passes : {X : Type 0} → (X → Bool) → List X → Type 0
Passes {X} f xs = (j : ℕ) × ((x : X) × ((slice_get xs j ≡ Some x) × (f x ≡ true)))

any_at : {X : Type 0} (f : X → Bool) (xs : List X) → list_any f xs ≡ true → Passes f xs
any_at f [] e = cc
any_at f (x ∷ xs) e = by_first (f x) refl e (λ rest. any_at f xs rest)
  where
    by_first : (b : Bool) → f x ≡ b → (b || list_any f xs) ≡ true → (list_any f xs ≡ true → Passes f xs)
        → Passes f (x ∷ xs)
    by_first true is e later = (0, (x, (refl, is)))
    by_first false is e later = let it = later e in (suc it.0, (it.1.0, it.1.1))

-- there is a first one where one passes
pub list_any-position : {X : Type 0} (f : X → Bool) (xs : List X) (d : X) → is_some (position f xs) ≡ list_any f xs
list_any-position f xs d = by_place (nat_lt (position_or_len f xs) (length xs)) refl
  where
    none : length xs ≤ position_or_len f xs → list_any f xs ≡ false
    none past = list_any_none f xs (λ k d within. fails_before_first f xs k d (omega (arith, past)))

    by_place : (b : Bool) → nat_lt (position_or_len f xs) (length xs) ≡ b
        → is_some (cond b (Some (position_or_len f xs)) None) ≡ list_any f xs
    by_place true e =
        let found = position-Some f xs (position_or_len f xs) d (ap (λ b. cond b (Some (position_or_len f xs)) None) e)
        in
        sym (list_any_at f xs (position_or_len f xs) d found.0 found.1)
    by_place false e = sym (none (grind (arith, e)))

-- a pair stands where its parts stand
pub zip_at : {X Y : Type 0} (xs : List X) (ys : List Y) (j : ℕ) (x : X) (y : Y) → slice_get xs j ≡ Some x
    → slice_get ys j ≡ Some y → slice_get (zip xs ys) j ≡ Some (x, y)
zip_at [] ys j x y e f = cc
zip_at (a ∷ xs) [] j x y e f = cc
zip_at (a ∷ xs) (b ∷ ys) zero x y e f = ap (λ x. Some (x, b)) (same_Some _ _ e)
    ∙ ap (λ y. Some (x, y)) (same_Some _ _ f)
zip_at (a ∷ xs) (b ∷ ys) (suc j) x y e f = zip_at xs ys j x y e f

pub zip_from : {X Y : Type 0} (xs : List X) (ys : List Y) (j : ℕ) (t : X × Y) → slice_get (zip xs ys) j ≡ Some t
    → (slice_get xs j ≡ Some t.0) × (slice_get ys j ≡ Some t.1)
zip_from [] ys j t e = cc
zip_from (a ∷ xs) [] j t e = cc
zip_from {X} {Y} (a ∷ xs) (b ∷ ys) zero t e =
    let same : (a, b) ≡ t = same_Some _ _ e in (ap (λ (t : X × Y). Some t.0) same, ap (λ (t : X × Y). Some t.1) same)
zip_from (a ∷ xs) (b ∷ ys) (suc j) t e = zip_from xs ys j t e

-- and a number in order at its place
pub range_at : {X : Type 0} (f : ℕ → X) (n a j : ℕ) → j < n
    → slice_get (map f (range_with_len a n)) j ≡ Some (f (a + j))
range_at f zero a j within = absurd (omega arith)
range_at f (suc n) a zero within = let same : a ≡ a + 0 = omega arith in ap (λ k. Some (f k)) same
range_at f (suc n) a (suc j) within =
    let same : a + 1 + j ≡ a + suc j = omega arith in
    range_at f n (a + 1) j (omega arith) ∙ ap (λ k. Some (f k)) same

pub range_from : {X : Type 0} (f : ℕ → X) (n a j : ℕ) (y : X) → slice_get (map f (range_with_len a n)) j ≡ Some y
    → y ≡ f (a + j)
range_from f n a j y e =
    let within = slice_get_within (map f (range_with_len a n)) j y e in
    same_Some _ _ (sym e ∙ range_at f n a j (omega (arith, within, length-map-range_with_len f a n)))

-- a test holds each number below the least that none holds
pub held_is : (o : Option ℕ) (m : ℕ) → option_map_or (λ n. n == m) o false ≡ true → o ≡ Some m
held_is None m e = cc
held_is (Some n) m e = let same : n ≡ m = grind arith in ap Some same

pub held_below : (slot : Test → Option ℕ) (ts : List Test) (m : ℕ) → m < least_free slot ts
    → (j : ℕ) × ((t : Test) × ((slice_get ts j ≡ Some t) × (slot t ≡ Some m)))
held_below slot ts m below = by_any (any_at (holds slot m) ts held)
  where
    free : ℕ → Bool
    free n = not (list_any (holds slot n) ts)

    within : m < length ts
    within =
        omega (
          arith,
          below,
          prefix_len-le-length (λ n. not (free n)) (range_with_len 0 (length ts)),
          length-range_with_len 0 (length ts),
        )

    is_not : (b : Bool) → not b ≡ false → b ≡ true
    is_not true e = refl
    is_not false e = cc

    held : list_any (holds slot m) ts ≡ true
    held = is_not (list_any (holds slot m) ts)
        (ap free (sym (get_or-range_with_len 0 (length ts) m 0 within ∙ zero-add m))
        ∙ fails_before_first free (range_with_len 0 (length ts)) m 0 below)

    by_any : Passes (holds slot m) ts → (j : ℕ) × ((t : Test) × ((slice_get ts j ≡ Some t) × (slot t ≡ Some m)))
    by_any (j, (t, (at, is))) = (j, (t, (at, held_is (slot t) m is)))
