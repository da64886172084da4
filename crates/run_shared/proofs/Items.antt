-- Items of lists.
use Rattle.std.proofs.Common.{◌≡◌, ℕ, ◌<◌, List, [], ◌∷◌, length, get_or, zero, suc, arith, sym, ◌∙◌, subst}

-- one place has one item
pub item_same : {X : Type 0} → (xs : List X) (i : ℕ) (x y : X) → i < length xs → x ≡ get_or xs i x → y ≡ get_or xs i y
    → x ≡ y
item_same [] i x y below e f = absurd (omega (arith, below))
item_same (z ∷ xs) zero x y below e f = e ∙ sym f
item_same (z ∷ xs) (suc i) x y below e f = item_same xs i x y (omega (arith, below)) e f

-- lists that differ at a place differ
pub differs : {X : Type 0} → (xs ys : List X) (i : ℕ) (x y : X) → i < length xs → x ≡ get_or xs i x → y ≡ get_or ys i y
    → (x ≡ y → ⊥) → xs ≡ ys → ⊥
differs xs ys i x y below e f apart same = apart (item_same xs i x y below e
    (subst (λ zs. y ≡ get_or zs i y) (sym same) f))
