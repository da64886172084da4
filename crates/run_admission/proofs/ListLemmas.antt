-- Lists side by side, and the first place that passes.
use Rattle.std.proofs.Common.{◌≡◌, ℕ, zero, suc, ◌<◌, List, [], ◌∷◌, length, get_or, set, Bool, true, false}
use Rattle.std.proofs.Common.{cond, Some, None, nat_lt, position, refl, ap, ◌∙◌, arith}
use Rattle.std.specs.List.{position_or_len, zip}
use Rattle.std.proofs.lemmas.List.Sums.{position_or_len_is}

-- the place of the first item that passes
pub found_at : {X : Type 0} (p : X → Bool) (xs : List X) (i : ℕ) (d : X) → i < length xs
    → ((k : ℕ) → k < i → p (get_or xs k d) ≡ false) → p (get_or xs i d) ≡ true → position p xs ≡ Some i
found_at p xs i d inside below here =
    let at : position_or_len p xs ≡ i = position_or_len_is p xs i d (omega arith) below (λ h. here) in
    let lt : nat_lt i (length xs) ≡ true = grind arith in
    ap (λ m. cond (nat_lt m (length xs)) (Some m) None) at ∙ ap (λ b. cond b (Some i) None) lt

pub not_below : (n : ℕ) → nat_lt n n ≡ false
not_below n = grind arith

-- no item passes
pub found_none : {X : Type 0} (p : X → Bool) (xs : List X) (d : X)
    → ((k : ℕ) → k < length xs → p (get_or xs k d) ≡ false) → position p xs ≡ None
found_none p xs d below =
    let at : position_or_len p xs ≡ length xs =
    position_or_len_is p xs (length xs) d (omega arith) below (λ h. absurd (omega arith)) in
    ap (λ m. cond (nat_lt m (length xs)) (Some m) None) at
    ∙ ap (λ b. cond b (Some (length xs)) None) (not_below (length xs))

-- an item of two lists side by side
pub length_zip : {X Y : Type 0} (xs : List X) (ys : List Y) → length xs ≡ length ys → length (zip xs ys) ≡ length ys
length_zip [] [] e = refl
length_zip [] (y ∷ ys) e = cc
length_zip (x ∷ xs) [] e = cc
length_zip (x ∷ xs) (y ∷ ys) e = let rest : length xs
    ≡ length ys = omega arith in ap (λ n. suc n) (length_zip xs ys rest)

pub get_or_zip : {X Y : Type 0} (xs : List X) (ys : List Y) (k : ℕ) (d : X) (e : Y) (f : X × Y) → k < length xs
    → k < length ys → get_or (zip xs ys) k f ≡ (get_or xs k d, get_or ys k e)
get_or_zip [] ys k d e f h i = absurd (omega arith)
get_or_zip (x ∷ xs) [] k d e f h i = absurd (omega arith)
get_or_zip (x ∷ xs) (y ∷ ys) zero d e f h i = refl
get_or_zip (x ∷ xs) (y ∷ ys) (suc k) d e f h i = get_or_zip xs ys k d e f (omega arith) (omega arith)

-- an item at one of the places, whatever stands past the end
pub get_default : {X : Type 0} (xs : List X) (i : ℕ) (d e : X) → i < length xs → get_or xs i d ≡ get_or xs i e
get_default [] i d e h = absurd (omega arith)
get_default (x ∷ xs) zero d e h = refl
get_default (x ∷ xs) (suc i) d e h = get_default xs i d e (omega arith)

-- after one of the second list was set
pub zip_set : {X Y : Type 0} (xs : List X) (ys : List Y) (k : ℕ) (d : X) (y : Y) → k < length xs
    → zip xs (set ys k y) ≡ set (zip xs ys) k (get_or xs k d, y)
zip_set [] ys k d y h = absurd (omega arith)
zip_set (x ∷ xs) [] k d y h = refl
zip_set (x ∷ xs) (z ∷ ys) zero d y h = refl
zip_set (x ∷ xs) (z ∷ ys) (suc k) d y h = ap (λ l. (x, z) ∷ l) (zip_set xs ys k d y (omega arith))
