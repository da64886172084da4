-- Sums over the numbers from one on.
use Rattle.std.proofs.Common.{◌≡◌, ℕ, zero, suc, ◌+◌, ◌<◌, ◌≤◌, ◌==◌, Bool, true, false, cond, refl, ap, sym, ◌∙◌}
use Rattle.std.proofs.Common.{arith}

-- the sum of what each of n numbers from a on gives
abbrev pub sum_from : (ℕ → ℕ) → ℕ → ℕ → ℕ
sum_from f a zero = 0
sum_from f a (suc n) = f a + sum_from f (a + 1) n

pub sum-same : (f g : ℕ → ℕ) (n a : ℕ) → ((k : ℕ) → a ≤ k → k < a + n → f k ≡ g k) → sum_from f a n ≡ sum_from g a n
sum-same f g zero a same = refl
sum-same f g (suc n) a same =
    let first : f a ≡ g a = same a (omega arith) (omega arith) in
    let rest : sum_from f (a + 1) n ≡ sum_from g (a + 1) n =
    sum-same f g n (a + 1) (λ k low high. same k (omega (arith, low)) (omega (arith, high))) in
    omega (arith, first, rest)

pub sum-plus : (f g : ℕ → ℕ) (n a : ℕ) → sum_from (λ k. f k + g k) a n ≡ sum_from f a n + sum_from g a n
sum-plus f g zero a = refl
sum-plus f g (suc n) a =
    let rest : sum_from (λ k. f k + g k) (a + 1) n ≡ sum_from f (a + 1) n + sum_from g (a + 1) n =
    sum-plus f g n (a + 1) in
    omega (arith, rest)

pub sum-none : (f : ℕ → ℕ) (n a : ℕ) → ((k : ℕ) → a ≤ k → k < a + n → f k ≡ 0) → sum_from f a n ≡ 0
sum-none f zero a none = refl
sum-none f (suc n) a none =
    let first : f a ≡ 0 = none a (omega arith) (omega arith) in
    let rest : sum_from f (a + 1) n ≡ 0 =
    sum-none f n (a + 1) (λ k low high. none k (omega (arith, low)) (omega (arith, high))) in
    omega (arith, first, rest)

-- one number among them
apart : (i k : ℕ) → i < k → cond {A = ℕ} (i == k) 1 0 ≡ 0
apart i k low = ap (λ b. cond {A = ℕ} b 1 0) (differ i k low)
  where
    differ : (i k : ℕ) → i < k → (i == k) ≡ false
    differ i k low = grind arith

pub sum-one : (i n a : ℕ) → a ≤ i → i < a + n → sum_from (λ k. cond (i == k) 1 0) a n ≡ 1
sum-one i zero a low high = absurd (omega (arith, low, high))
sum-one i (suc n) a low high = by_first (i == a) refl (λ later. sum-one i n (a + 1) later (omega (arith, high)))
  where
    by_first : (b : Bool) → (i == a) ≡ b → (a + 1 ≤ i → sum_from (λ k. cond (i == k) 1 0) (a + 1) n ≡ 1)
        → cond b 1 0 + sum_from (λ k. cond (i == k) 1 0) (a + 1) n ≡ 1
    by_first true e rest =
        let here : i ≡ a = grind arith in
        let none : sum_from (λ k. cond (i == k) 1 0) (a + 1) n ≡ 0 =
        sum-none (λ k. cond (i == k) 1 0) n (a + 1) (λ k above within. apart i k (omega (arith, here, above))) in
        omega (arith, none)
    by_first false e rest =
        let other : a + 1 ≤ i = grind (arith, low) in
        let one : sum_from (λ k. cond (i == k) 1 0) (a + 1) n ≡ 1 = rest other in
        omega (arith, one)

-- sums of which one is below the other, number by number
pub sum-le : (f g : ℕ → ℕ) (n a : ℕ) → ((k : ℕ) → a ≤ k → k < a + n → f k ≤ g k) → sum_from f a n ≤ sum_from g a n
sum-le f g zero a le = omega arith
sum-le f g (suc n) a le =
    let first : f a ≤ g a = le a (omega arith) (omega arith) in
    let rest : sum_from f (a + 1) n ≤ sum_from g (a + 1) n =
    sum-le f g n (a + 1) (λ k low high. le k (omega (arith, low)) (omega (arith, high))) in
    omega (arith, first, rest)

-- and so are equal everywhere where the sums are
pub each_equal : (f g : ℕ → ℕ) (n a : ℕ) → ((k : ℕ) → a ≤ k → k < a + n → f k ≤ g k)
    → sum_from g a n ≤ sum_from f a n → (k : ℕ) → a ≤ k → k < a + n → f k ≡ g k
each_equal f g zero a le all k low high = absurd (omega (arith, low, high))
each_equal f g (suc n) a le all k low high =
    by_first (k == a) refl (λ later. each_equal f g n (a + 1)
    (λ k low high. le k (omega (arith, low)) (omega (arith, high))) (omega (arith, all, first)) k later
    (omega (arith, high)))
  where
    first : f a ≤ g a
    first = le a (omega arith) (omega arith)

    rest : sum_from f (a + 1) n ≤ sum_from g (a + 1) n
    rest = sum-le f g n (a + 1) (λ k low high. le k (omega (arith, low)) (omega (arith, high)))

    by_first : (b : Bool) → (k == a) ≡ b → (a + 1 ≤ k → f k ≡ g k) → f k ≡ g k
    by_first true e later =
        let here : k ≡ a = grind arith in
        let same : f a ≡ g a = omega (arith, all, first, rest) in
        ap f here ∙ same ∙ ap g (sym here)
    by_first false e later = let other : a + 1 ≤ k = grind (arith, low) in later other
