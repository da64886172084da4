-- What holds of two lists, place by place.
use Rattle.std.proofs.Common.{◌≡◌, ℕ, zero, suc, ◌+◌, ◌<◌, List, [], ◌∷◌, ◌++◌, length, take, get_or, arith, add-one}
use Rattle.std.proofs.Common.{map, sym, subst}
use Rattle.std.specs.List.{AllZip}

next_zip : {A B : Type 0} (Q : A → B → Type 0) (xs : List A) (ys : List B) (i : ℕ) (x : A) (y : B)
    → i < length xs → x ≡ get_or xs i x → Q x y → AllZip Q (take i xs) ys
    → AllZip Q (take (suc i) xs) (ys ++ y ∷ [])
next_zip Q [] ys i x y within is one h = absurd (omega (arith, within))
next_zip Q (z ∷ xs) [] zero x y within is one h = (subst (λ w. Q w y) is one, tt)
next_zip Q (z ∷ xs) (w ∷ ys) zero x y within is one h = absurd h
next_zip Q (z ∷ xs) [] (suc i) x y within is one h = absurd h
next_zip Q (z ∷ xs) (w ∷ ys) (suc i) x y within is one h =
    (h.0, next_zip Q xs ys i x y (omega (arith, within)) is one h.1)

-- a place more
pub zip_more : {A B : Type 0} (Q : A → B → Type 0) (xs : List A) (ys new : List B) (i : ℕ) (x : A) (y : B)
    → i < length xs → x ≡ get_or xs i x → new ≡ ys ++ y ∷ [] → Q x y → AllZip Q (take i xs) ys
    → AllZip Q (take (i + 1) xs) new
zip_more Q xs ys new i x y within is made one h =
    subst (λ l. AllZip Q (take (i + 1) xs) l) (sym made)
    (rw add-one (next_zip Q xs ys i x y within is one h))

-- the same of what is seen of the first list
next_seen : {R A B : Type 0} (g : R → A) (Q : A → B → Type 0) (xs : List R) (ys : List B) (i : ℕ) (x : R) (y : B)
    → i < length xs → x ≡ get_or xs i x → Q (g x) y → AllZip Q (map g (take i xs)) ys
    → AllZip Q (map g (take (suc i) xs)) (ys ++ y ∷ [])
next_seen g Q [] ys i x y within is one h = absurd (omega (arith, within))
next_seen g Q (z ∷ xs) [] zero x y within is one h = (subst (λ w. Q (g w) y) is one, tt)
next_seen g Q (z ∷ xs) (w ∷ ys) zero x y within is one h = absurd h
next_seen g Q (z ∷ xs) [] (suc i) x y within is one h = absurd h
next_seen g Q (z ∷ xs) (w ∷ ys) (suc i) x y within is one h =
    (h.0, next_seen g Q xs ys i x y (omega (arith, within)) is one h.1)

pub seen_more : {R A B : Type 0} (g : R → A) (Q : A → B → Type 0) (xs : List R) (ys new : List B) (i : ℕ) (x : R)
    (y : B) → i < length xs → x ≡ get_or xs i x → new ≡ ys ++ y ∷ [] → Q (g x) y → AllZip Q (map g (take i xs)) ys
    → AllZip Q (map g (take (i + 1) xs)) new
seen_more g Q xs ys new i x y within is made one h =
    subst (λ l. AllZip Q (map g (take (i + 1) xs)) l) (sym made)
    (rw add-one (next_seen g Q xs ys i x y within is one h))

-- what follows place by place
pub zip_so : {A B : Type 0} (Q S : A → B → Type 0) (xs : List A) (ys : List B) → ((x : A) (y : B) → Q x y → S x y)
    → AllZip Q xs ys → AllZip S xs ys
zip_so Q S [] [] so h = tt
zip_so Q S [] (y ∷ ys) so h = absurd h
zip_so Q S (x ∷ xs) [] so h = absurd h
zip_so Q S (x ∷ xs) (y ∷ ys) so h = (so x y h.0, zip_so Q S xs ys so h.1)
