-- Sums and counts over lists that agree.
use Rattle.std.proofs.Common.{◌≡◌, ℕ, zero, suc, ◌+◌, ◌≤◌, ◌||◌, ◌&&◌, nat_lt, List, [], ◌∷◌, map, length, Bool, true}
use Rattle.std.proofs.Common.{false}
use Rattle.std.proofs.Common.{not, Some, count_by, sum_by, cond, slice_get, refl, ap, sym, ◌∙◌, arith, zip}
use Rattle.std.specs.List.{All, list_any, range_with_len}
use Rattle.std.proofs.lemmas.Bool.Decides.{nat_tests}
use Rattle.std.proofs.lemmas.List.Elements.{All-head, All-tail}
use Rattle.std.proofs.lemmas.List.Sums.{sum_by-cons}

-- nothing adds nothing
pub none-add : (n : ℕ) → 0 + n ≡ n
none-add n = omega arith

-- sums of equal numbers are equal
pub sum-same : {X : Type 0} (f g : X → ℕ) (xs : List X) → ((x : X) → f x ≡ g x) → sum_by f xs ≡ sum_by g xs
sum-same f g [] same = refl
sum-same f g (x ∷ xs) same =
    sum_by-cons f x xs ∙ ap (λ n. n + sum_by f xs) (same x) ∙ ap (λ n. g x + n) (sum-same f g xs same)
    ∙ sym (sum_by-cons g x xs)

-- so are those of elements, and of elements with their numbers from one on
pub sum-numbered : {X : Type 0} (f : X → ℕ) (g : X × ℕ → ℕ) (xs : List X) (from : ℕ)
    → ((j : ℕ) (x : X) → slice_get xs j ≡ Some x → f x ≡ g (x, from + j))
    → sum_by f xs ≡ sum_by g (zip xs (range_with_len from (length xs)))
sum-numbered f g [] from same = refl
sum-numbered {X} f g (x ∷ xs) from same =
    sum_by-cons f x xs
    ∙ ap (λ n. n + sum_by f xs) (same 0 x refl ∙ ap (λ k. g (x, k)) (none_more from))
    ∙ ap (λ n. g (x, from) + n)
    (sum-numbered f g xs (from + 1) (λ j y there. same (suc j) y there ∙ ap (λ k. g (y, k)) (one_more from j)))
    ∙ sym (sum_by-cons g (x, from) (zip xs (range_with_len (from + 1) (length xs))))
  where
    none_more : (n : ℕ) → n + 0 ≡ n
    none_more n = omega arith

    one_more : (n j : ℕ) → n + suc j ≡ n + 1 + j
    one_more n j = omega arith

-- counts of what is seen, where the tests agree
pub count-seen : {X Y : Type 0} (test : Y → Bool) (own : X → Bool) (g : X → Y) (xs : List X)
    → All (λ x. test (g x) ≡ own x) xs → count_by test (map g xs) ≡ count_by own xs
count-seen test own g [] all = refl
count-seen test own g (x ∷ xs) all =
    sum_by-cons (λ y. cond (test y) 1 0) (g x) (map g xs)
    ∙ ap (λ b. cond b 1 0 + count_by test (map g xs)) (All-head (λ x. test (g x) ≡ own x) x xs all)
    ∙ ap (λ n. cond (own x) 1 0 + n) (count-seen test own g xs (All-tail (λ x. test (g x) ≡ own x) x xs all))
    ∙ sym (sum_by-cons (λ x. cond (own x) 1 0) x xs)

-- any passes where at least one does
pub any-count : {X : Type 0} (test : X → Bool) (xs : List X) → list_any test xs ≡ nat_lt 0 (count_by test xs)
any-count test [] = refl
any-count test (x ∷ xs) =
    ap (λ b. test x || b) (any-count test xs) ∙ by_first (test x) (count_by test xs)
    ∙ ap (nat_lt 0) (sym (sum_by-cons (λ x. cond (test x) 1 0) x xs))
  where
    by_first : (b : Bool) (n : ℕ) → (b || nat_lt 0 n) ≡ nat_lt 0 (cond b 1 0 + n)
    by_first true n = grind (arith, nat_tests)
    by_first false n = grind (arith, nat_tests)

-- of at most one start and one finish, there are more starts exactly where there is a start and no finish
pub once_running : (starts finishes : ℕ) → starts ≤ 1 → finishes ≤ 1
    → nat_lt finishes starts ≡ (nat_lt 0 starts && not (nat_lt 0 finishes))
once_running zero zero s f = refl
once_running zero (suc zero) s f = refl
once_running (suc zero) zero s f = refl
once_running (suc zero) (suc zero) s f = refl
once_running (suc (suc n)) m s f = absurd (omega arith)
once_running zero (suc (suc m)) s f = absurd (omega arith)
once_running (suc zero) (suc (suc m)) s f = absurd (omega arith)
