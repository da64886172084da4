-- Sums over a range of numbers.
use Rattle.std.proofs.Common.{◌≡◌, ◌≢◌, ℕ, zero, suc, ◌+◌, ◌<◌, ◌≤◌, ◌==◌, List, [], ◌∷◌, map, Bool, true, false}
use Rattle.std.proofs.Common.{sum_by, refl, ap, sym, ◌∙◌, arith}
use Rattle.std.specs.List.{range_with_len}
use Rattle.std.proofs.lemmas.List.Sums.{sum_by-cons}

-- the first of a range, and the rest
sum-cons : (f : ℕ → ℕ) (a n : ℕ) → sum_by f (range_with_len a (suc n)) ≡ f a + sum_by f (range_with_len (a + 1) n)
sum-cons f a n = sum_by-cons f a (range_with_len (a + 1) n)

-- two sums of the same numbers
pub sum-same : (f g : ℕ → ℕ) (n a : ℕ) → ((k : ℕ) → a ≤ k → g k ≡ f k)
    → sum_by g (range_with_len a n) ≡ sum_by f (range_with_len a n)
sum-same f g zero a same = refl
sum-same f g (suc n) a same =
    sum-cons g a n ∙ ap (λ m. m + sum_by g (range_with_len (a + 1) n)) (same a (omega arith))
    ∙ ap (λ m. f a + m) (sum-same f g n (a + 1) (λ k low. same k (omega arith))) ∙ sym (sum-cons f a n)

-- and of numbers that are the same but for one place
pub sum-one : (f g : ℕ → ℕ) (n a i : ℕ) → a ≤ i → i < a + n → ((k : ℕ) → k ≢ i → g k ≡ f k)
    → sum_by g (range_with_len a n) + f i ≡ sum_by f (range_with_len a n) + g i
sum-one f g zero a i low high same = absurd (omega arith)
sum-one f g (suc n) a i low high same =
    by_part (a == i) refl (λ apart. sum-one f g n (a + 1) i (omega arith) (omega arith) same)
  where
    left : sum_by g (range_with_len a (suc n)) ≡ g a + sum_by g (range_with_len (a + 1) n)
    left = sum-cons g a n

    right : sum_by f (range_with_len a (suc n)) ≡ f a + sum_by f (range_with_len (a + 1) n)
    right = sum-cons f a n

    by_part : (b : Bool) → (a == i) ≡ b
        → (a ≢ i → sum_by g (range_with_len (a + 1) n) + f i ≡ sum_by f (range_with_len (a + 1) n) + g i)
        → sum_by g (range_with_len a (suc n)) + f i ≡ sum_by f (range_with_len a (suc n)) + g i
    by_part true e later =
        let here : a ≡ i = grind arith in
        let rest : sum_by g (range_with_len (a + 1) n) ≡ sum_by f (range_with_len (a + 1) n) =
        sum-same f g n (a + 1) (λ k low. same k (omega arith)) in
        let ga : g a ≡ g i = ap g here in
        let fa : f a ≡ f i = ap f here in
        omega (arith, left, right)
    by_part false e later =
        let apart : a ≢ i = grind arith in
        let rest : sum_by g (range_with_len (a + 1) n) + f i ≡ sum_by f (range_with_len (a + 1) n) + g i =
        later apart in
        let ga : g a ≡ f a = same a apart in
        omega (arith, left, right)

-- a sum over what a function gives
pub sum-through : {X : Type 0} (f : X → ℕ) (g : ℕ → X) (ks : List ℕ) → sum_by f (map g ks) ≡ sum_by (λ k. f (g k)) ks
sum-through f g [] = refl
sum-through f g (k ∷ ks) =
    sum_by-cons f (g k) (map g ks) ∙ ap (λ m. f (g k) + m) (sum-through f g ks) ∙ sym (sum_by-cons (λ k. f (g k)) k ks)
