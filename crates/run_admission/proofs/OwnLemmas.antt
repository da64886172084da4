-- The slots of tests are their own, after one came to hold a slot that none held.
use Rattle.std.proofs.Common.{◌≡◌, ◌≢◌, ℕ, zero, suc, ◌<◌, ◌==◌, ◌||◌, List, [], ◌∷◌}
use Rattle.std.proofs.Common.{length, get_or, set, map, Bool, true}
use Rattle.std.proofs.Common.{false, Option, Some, None, option_and_then, slice_get, refl, ap, sym, ◌∙◌, arith, eq-eqb}
use Rattle.std.proofs.Common.{get_or-set_other}
use Rattle.std.specs.Option.{option_map_or}
use Rattle.std.specs.List.{list_any}
use Rattle.std.proofs.lemmas.Grind.{get_or-set_at}
use Rattle.std.proofs.lemmas.List.{map-set, length-map}
use Rattle.run_admission.specs.InUse.{Test, holds}

-- what a test holds, by the list of what each holds
held_at : (slot : Test → Option ℕ) (ts : List Test) (i : ℕ)
    → option_and_then slot (slice_get ts i) ≡ get_or (map slot ts) i None
held_at slot [] i = refl
held_at slot (t ∷ ts) zero = refl
held_at slot (t ∷ ts) (suc i) = held_at slot ts i

-- no two items of a list hold one number
abbrev AreOwn : List (Option ℕ) → Type 0
AreOwn ss = (i j n : ℕ) → get_or ss i None ≡ Some n → get_or ss j None ≡ Some n → i ≡ j

-- no two items hold one number after one came to hold a number that none held
own_set : (ss : List (Option ℕ)) (k : ℕ) (o : Option ℕ) → k < length ss → AreOwn ss
    → ((n i : ℕ) → o ≡ Some n → get_or ss i None ≡ Some n → ⊥) → AreOwn (set ss k o)
own_set ss k o inside own free i j n e f = by_places (i == k) (j == k) refl refl
  where
    here : (i : ℕ) → i ≡ k → get_or (set ss k o) i None ≡ Some n → o ≡ Some n
    here i is e = sym (get_or-set_at ss k i o None is inside) ∙ e

    there : (i : ℕ) → i ≢ k → get_or (set ss k o) i None ≡ Some n → get_or ss i None ≡ Some n
    there i apart e = sym (get_or-set_other ss k i o None apart) ∙ e

    by_places : (b c : Bool) → (i == k) ≡ b → (j == k) ≡ c → i ≡ j
    by_places true true ib jb = grind arith
    by_places true false ib jb =
        let is : i ≡ k = grind arith in
        let apart : j ≢ k = grind arith in
        absurd (free n j (here i is e) (there j apart f))
    by_places false true ib jb =
        let apart : i ≢ k = grind arith in
        let is : j ≡ k = grind arith in
        absurd (free n i (here j is f) (there i apart e))
    by_places false false ib jb =
        let first : i ≢ k = grind arith in
        let second : j ≢ k = grind arith in
        own i j n (there i first e) (there j second f)

-- a slot that no test holds is that of the test at no place
none_holds : (slot : Test → Option ℕ) (ts : List Test) (n i : ℕ) → list_any (holds slot n) ts ≡ false
    → get_or (map slot ts) i None ≡ Some n → ⊥
none_holds slot [] n i free e = cc
none_holds slot (t ∷ ts) n zero free e =
    let held : holds slot n t ≡ true = ap (λ o. option_map_or (λ m. m == n) o false) e ∙ eq-eqb n n refl in
    let bad : true ≡ false = sym (ap (λ b. b || list_any (holds slot n) ts) held) ∙ free in cc
none_holds slot (t ∷ ts) n (suc i) free e = none_holds slot ts n i (rest (holds slot n t) free) e
  where
    rest : (b : Bool) → (b || list_any (holds slot n) ts) ≡ false → list_any (holds slot n) ts ≡ false
    rest true e = cc
    rest false e = e

-- the slots of tests are their own after one came to hold a slot that none held
pub own_after : (slot : Test → Option ℕ) (ts : List Test) (k : ℕ) (t : Test) → k < length ts
    → ((n : ℕ) → slot t ≡ Some n → list_any (holds slot n) ts ≡ false)
    → ((i j n : ℕ) → option_and_then slot (slice_get ts i) ≡ Some n → option_and_then slot (slice_get ts j) ≡ Some n
    → i ≡ j)
    → (i j n : ℕ) → option_and_then slot (slice_get (set ts k t) i) ≡ Some n
    → option_and_then slot (slice_get (set ts k t) j) ≡ Some n → i ≡ j
own_after slot ts k t inside free own i j n e f =
    own_set (map slot ts) k (slot t) (omega (arith, length-map ts slot))
    (λ i j n e f. own i j n (held_at slot ts i ∙ e) (held_at slot ts j ∙ f))
    (λ n i e f. none_holds slot ts n i (free n e) f)
    i j n (moved i e) (moved j f)
  where
    moved : (i : ℕ) → option_and_then slot (slice_get (set ts k t) i) ≡ Some n
        → get_or (set (map slot ts) k (slot t)) i None ≡ Some n
    moved i e = ap (λ ss. get_or ss i None) (sym (map-set slot ts k t)) ∙ sym (held_at slot (set ts k t) i) ∙ e
