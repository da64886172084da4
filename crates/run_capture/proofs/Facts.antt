-- Facts of truth values, numbers and lists that the crates above cite.
use Rattle.std.proofs.Common.{◌≡◌, ℕ, ◌<◌, nat_lt, List, [], ◌∷◌, ◌++◌, length, zip, Bool, true, false, ◌&&◌, ◌||◌, not}
use Rattle.std.proofs.Common.{refl, ap, arith}

-- both of two that hold together
pub both_true : (a b : Bool) → (a && b) ≡ true → (a ≡ true) × (b ≡ true)
both_true true b e = (refl, e)
both_true false b e = cc

-- two that hold together
pub and_both : (a b : Bool) → a ≡ true → b ≡ true → (a && b) ≡ true
and_both true b e f = f
and_both false b e f = e

-- the second of two
pub or_right : (a b : Bool) → b ≡ true → (a || b) ≡ true
or_right true b e = refl
or_right false b e = e

-- or nothing else
pub or_false : (b : Bool) → (b || false) ≡ b
or_false true = refl
or_false false = refl

-- a test whose opposite passes fails
pub not_true : (b : Bool) → not b ≡ true → b ≡ false
not_true true e = cc
not_true false e = refl

-- a number below another is found so
pub true_lt : (m n : ℕ) → m < n → nat_lt m n ≡ true
true_lt m n below = grind arith

-- the front of nothing
pub first_none : {X : Type 0} (xs ys : List X) → xs ++ ys ≡ [] → xs ≡ []
first_none [] ys e = refl
first_none (x ∷ xs) ys e = cc

-- the pairs of two lists of one length, and one pair more
pub zip-push : {X Y : Type 0} (xs : List X) (ys : List Y) (x : X) (y : Y) → length xs ≡ length ys
    → zip (xs ++ x ∷ []) (ys ++ y ∷ []) ≡ zip xs ys ++ (x, y) ∷ []
zip-push [] [] x y e = refl
zip-push [] (w ∷ ys) x y e = absurd (omega arith)
zip-push (v ∷ xs) [] x y e = absurd (omega arith)
zip-push (v ∷ xs) (w ∷ ys) x y e = ap (λ ps. (v, w) ∷ ps) (zip-push xs ys x y (omega arith))
