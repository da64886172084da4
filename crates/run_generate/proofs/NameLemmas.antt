-- Names that are told apart by their numbers.
use Rattle.std.proofs.Common.{◌≡◌, ◌&&◌, ℕ, ◌<◌, ◌^◌, ◌++◌, ◌∷◌, [], List, Bool, true, false, nat_eq, codes, decimal}
use Rattle.std.proofs.Common.{refl, ap, sym, ◌∙◌, arith}
use Rattle.std.proofs.lemmas.Bool.Decides.{nat_tests}
use Rattle.std.proofs.lemmas.Fmt.{decimal_is_IsNumeral}
use Rattle.std.specs.Str.Parse.{digits_value}
use Rattle.run_capture.proofs.Facts.{both_true}
use lib.Pointwise.{pointwise}

-- lists of numbers that are equal item by item are equal
same_list : (xs ys : List ℕ) → pointwise nat_eq xs ys ≡ true → xs ≡ ys
same_list [] [] e = refl
same_list [] (y ∷ ys) e = cc
same_list (x ∷ xs) [] e = cc
same_list (x ∷ xs) (y ∷ ys) e =
    let parts = both_true (nat_eq x y) (pointwise nat_eq xs ys) e in
    let test : nat_eq x y ≡ true = parts.0 in
    let first : x ≡ y = grind (arith, nat_tests) in
    let rest : xs ≡ ys = same_list xs ys parts.1 in cc

-- decimals tell their numbers
decimals_apart : (i j : ℕ) → i < 2 ^ 32 → j < 2 ^ 32 → decimal i ≡ decimal j → i ≡ j
decimals_apart i j small few e =
    sym (decimal_is_IsNumeral i (omega arith)).1 ∙ ap (digits_value 10) e ∙ (decimal_is_IsNumeral j (omega arith)).1

tail_same : (x : ℕ) (xs ys : List ℕ) → x ∷ xs ≡ x ∷ ys → xs ≡ ys
tail_same x xs ys e = cc

pub names_apart : (i j : ℕ) → i < 2 ^ 32 → j < 2 ^ 32 → (i ≡ j → ⊥)
    → pointwise nat_eq (codes "t" ++ decimal i) (codes "t" ++ decimal j) ≡ false
names_apart i j small few apart =
    by_test (pointwise nat_eq (codes "t" ++ decimal i) (codes "t" ++ decimal j)) refl
  where
    by_test : (b : Bool) → pointwise nat_eq (codes "t" ++ decimal i) (codes "t" ++ decimal j) ≡ b → b ≡ false
    by_test false e = refl
    by_test true e =
        absurd (apart (decimals_apart i j small few
        (tail_same 116 (decimal i) (decimal j) (same_list (codes "t" ++ decimal i) (codes "t" ++ decimal j) e))))
