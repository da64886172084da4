-- Whether some of a list are so, by how many are.
use Rattle.std.proofs.Common.{◌≡◌, ◌+◌, ◌<◌, nat_lt, List, [], ◌∷◌, Bool, true, false, cond, ◌||◌, count_by, refl, ap}
use Rattle.std.proofs.Common.{sym, ◌∙◌, arith}
use Rattle.std.specs.List.{list_any}
use Rattle.std.proofs.lemmas.Bool.Decides.{nat_tests}
use Rattle.std.proofs.lemmas.List.Sums.{sum_by-cons}

-- none of a list is so where none is counted, and some where some are
pub any_none : {X : Type 0} (f : X → Bool) (xs : List X) → count_by f xs ≡ 0 → list_any f xs ≡ false
any_none f [] e = refl
any_none f (x ∷ xs) e = by_head (f x) (sym (sum_by-cons (λ x. cond (f x) 1 0) x xs) ∙ e) (any_none f xs)
  where
    by_head : (b : Bool) → cond b 1 0 + count_by f xs ≡ 0 → (count_by f xs ≡ 0 → list_any f xs ≡ false)
        → (b || list_any f xs) ≡ false
    by_head true e rest = absurd (omega (arith, e))
    by_head false e rest = rest (omega (arith, e))

pub count_none : {X : Type 0} (f : X → Bool) (xs : List X) → list_any f xs ≡ false → count_by f xs ≡ 0
count_none f [] e = refl
count_none f (x ∷ xs) e = sum_by-cons (λ x. cond (f x) 1 0) x xs ∙ by_head (f x) e (count_none f xs)
  where
    by_head : (b : Bool) → (b || list_any f xs) ≡ false → (list_any f xs ≡ false → count_by f xs ≡ 0)
        → cond b 1 0 + count_by f xs ≡ 0
    by_head true e rest = cc
    by_head false e rest = let none : count_by f xs ≡ 0 = rest e in omega (arith, none)

pub any_some : {X : Type 0} (f : X → Bool) (xs : List X) → 0 < count_by f xs → list_any f xs ≡ true
any_some f xs some = by_any (list_any f xs) refl
  where
    by_any : (b : Bool) → list_any f xs ≡ b → b ≡ true
    by_any true e = refl
    by_any false e = let none : count_by f xs ≡ 0 = count_none f xs e in absurd (omega (arith, none, some))

pub count_some : {X : Type 0} (f : X → Bool) (xs : List X) → list_any f xs ≡ true → 0 < count_by f xs
count_some f xs some = by_count (nat_lt 0 (count_by f xs)) refl
  where
    by_count : (b : Bool) → nat_lt 0 (count_by f xs) ≡ b → 0 < count_by f xs
    by_count true e = grind (arith, nat_tests)
    by_count false e =
        let none : count_by f xs ≡ 0 = grind (arith, nat_tests) in
        let never : false ≡ true = sym (any_none f xs none) ∙ some in cc

pub any-count : {X : Type 0} (f : X → Bool) (xs : List X) → nat_lt 0 (count_by f xs) ≡ list_any f xs
any-count f xs = by_any (list_any f xs) refl
  where
    by_any : (b : Bool) → list_any f xs ≡ b → nat_lt 0 (count_by f xs) ≡ b
    by_any true e = let some : 0 < count_by f xs = count_some f xs e in grind (arith, nat_tests)
    by_any false e = ap (nat_lt 0) (count_none f xs e)
