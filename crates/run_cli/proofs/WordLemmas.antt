-- Lists of few words.
use Rattle.std.proofs.Common.{◌≡◌, ◌<◌, ◌≤◌, List, [], ◌∷◌, map, length, get_or, arith}

-- a list of one item is what a test of that item makes of it
pub one_item : {A B : Type 0} (f : A → B) (xs : List A) (x : A) → 1 ≤ length xs → length xs < 2 → x ≡ get_or xs 0 x
    → map f xs ≡ f x ∷ []
one_item f [] x low high is = absurd (omega arith)
one_item f (y ∷ []) x low high is = cc
one_item f (y ∷ z ∷ zs) x low high is = absurd (omega arith)

-- and one of two items
pub two_items : {A B : Type 0} (f : A → B) (xs : List A) (x y : A) → 2 ≤ length xs → length xs < 3
    → x ≡ get_or xs 0 x → y ≡ get_or xs 1 y → map f xs ≡ f x ∷ f y ∷ []
two_items f [] x y low high first second = absurd (omega arith)
two_items f (a ∷ []) x y low high first second = absurd (omega arith)
two_items f (a ∷ b ∷ []) x y low high first second = cc
two_items f (a ∷ b ∷ c ∷ xs) x y low high first second = absurd (omega arith)
