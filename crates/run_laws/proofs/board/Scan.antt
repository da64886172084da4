-- Scans from 0 for the first number that passes a test.
use Rattle.std.proofs.Common.{◌≡◌, ℕ, ◌<◌, ◌≤◌, Bool, true, false, Some, None, length, get_or, nat_lt, cond, position}
use Rattle.std.proofs.Common.{ap, ◌∙◌, zero-add, arith}
use Rattle.std.specs.List.{range_with_len, position_or_len}
use Rattle.std.proofs.lemmas.List.FromFn.{get_or-range_with_len, length-range_with_len}
use Rattle.std.proofs.lemmas.List.Sums.{position_or_len_is}
use Rattle.run_admission.proofs.ListLemmas.{not_below}

-- the first of the numbers below n that passes, or n
pub first_is : (p : ℕ → Bool) (n i : ℕ) → i ≤ n → ((k : ℕ) → k < i → p k ≡ false) → (i < n → p i ≡ true)
    → position_or_len p (range_with_len 0 n) ≡ i
first_is p n i within below here =
    position_or_len_is p (range_with_len 0 n) i 0 (omega (arith, length-range_with_len 0 n))
    (λ k h. ap p (at k (omega arith)) ∙ below k h)
    (λ h. let inside : i < n = omega (arith, length-range_with_len 0 n) in ap p (at i inside) ∙ here inside)
  where
    at : (k : ℕ) → k < n → get_or (range_with_len 0 n) k 0 ≡ k
    at k h = get_or-range_with_len 0 n k 0 h ∙ zero-add k

-- the first of them that passes
pub found_first : (p : ℕ → Bool) (n i : ℕ) → i < n → ((k : ℕ) → k < i → p k ≡ false) → p i ≡ true
    → position p (range_with_len 0 n) ≡ Some i
found_first p n i inside below here =
    let at : position_or_len p (range_with_len 0 n) ≡ i = first_is p n i (omega arith) below (λ h. here) in
    let lt : nat_lt i (length (range_with_len 0 n)) ≡ true = ap (nat_lt i) (length-range_with_len 0 n) ∙ grind arith in
    ap (λ m. cond (nat_lt m (length (range_with_len 0 n))) (Some m) None) at ∙ ap (λ b. cond b (Some i) None) lt

-- none of them passes
pub found_none : (p : ℕ → Bool) (n : ℕ) → ((k : ℕ) → k < n → p k ≡ false) → position p (range_with_len 0 n) ≡ None
found_none p n below =
    let at : position_or_len p (range_with_len 0 n) ≡ n =
    first_is p n n (omega arith) below (λ h. absurd (omega arith)) in
    let lt : nat_lt n (length (range_with_len 0 n)) ≡ false = ap (nat_lt n) (length-range_with_len 0 n) ∙ not_below n in
    ap (λ m. cond (nat_lt m (length (range_with_len 0 n))) (Some m) None) at ∙ ap (λ b. cond b (Some n) None) lt
