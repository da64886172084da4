-- No test holds the least free slot, where one of the tests holds none.
use Rattle.std.proofs.Common.{◌≡◌, ℕ, zero, suc, ◌+◌, ◌<◌, ◌≤◌, ◌==◌, ◌||◌, List, [], ◌∷◌, length, get_or, Bool, true}
use Rattle.std.proofs.Common.{false, not, cond, Option, Some, None, is_some, nat_lt, count_by}
use Rattle.std.proofs.Common.{refl, ap, sym, ◌∙◌, arith}
use Rattle.std.proofs.Common.{zero-add}
use Rattle.std.specs.Option.{option_map_or}
use Rattle.std.specs.List.{range_with_len, list_any}
use Rattle.std.proofs.lemmas.List.FromFn.{get_or-range_with_len, length-range_with_len}
use Rattle.std.proofs.lemmas.List.Sums.{sum_by-cons, count_by-le-length, passes_at_first, fails_before_first}
use Rattle.run_admission.specs.InUse.{Test, holds, least_free}

-- how many of a range pass: the first, and those of the rest
pub count-cons : (f : ℕ → Bool) (a n : ℕ)
    → count_by f (range_with_len a (suc n)) ≡ cond (f a) 1 0 + count_by f (range_with_len (a + 1) n)
count-cons f a n = sum_by-cons (λ x. cond (f x) 1 0) a (range_with_len (a + 1) n)

-- where each number of a range passes, as many pass as it has
count-all : (f : ℕ → Bool) (n a : ℕ) → ((k : ℕ) → a ≤ k → k < a + n → f k ≡ true) → count_by f (range_with_len a n) ≡ n
count-all f zero a all = refl
count-all f (suc n) a all =
    let rest : count_by f (range_with_len (a + 1) n) ≡ n =
    count-all f n (a + 1) (λ k low high. all k (omega arith) (omega arith)) in
    let first : cond {A = ℕ} (f a) 1 0 ≡ 1 = ap (λ b. cond b 1 0) (all a (omega arith) (omega arith)) in
    omega (arith, count-cons f a n)

-- of a test that none passes, none of a range passes it
count-none : (n a : ℕ) → count_by (λ k. false) (range_with_len a n) ≡ 0
count-none zero a = refl
count-none (suc n) a = omega (arith, count-cons (λ k. false) a n, count-none n (a + 1))

-- a number stands nowhere in a range that begins after it
count-past : (j n a : ℕ) → j < a → count_by (λ k. j == k) (range_with_len a n) ≡ 0
count-past j zero a h = refl
count-past j (suc n) a h =
    let apart : (j == a) ≡ false = grind arith in
    let first : cond {A = ℕ} (j == a) 1 0 ≡ 0 = ap (λ b. cond b 1 0) apart in
    omega (arith, count-cons (λ k. j == k) a n, count-past j n (a + 1) (omega arith))

-- a number stands in a range once at most
count-one : (j n a : ℕ) → count_by (λ k. j == k) (range_with_len a n) ≤ 1
count-one j zero a = omega arith
count-one j (suc n) a = by_first (j == a) refl (count-one j n (a + 1))
  where
    by_first : (b : Bool) → (j == a) ≡ b → count_by (λ k. j == k) (range_with_len (a + 1) n) ≤ 1
        → count_by (λ k. j == k) (range_with_len a (suc n)) ≤ 1
    by_first true e rest =
        let here : j ≡ a = grind arith in
        let first : cond {A = ℕ} (j == a) 1 0 ≡ 1 = ap (λ b. cond b 1 0) e in
        omega (arith, count-cons (λ k. j == k) a n, count-past j n (a + 1) (omega arith))
    by_first false e rest =
        let first : cond {A = ℕ} (j == a) 1 0 ≡ 0 = ap (λ b. cond b 1 0) e in
        omega (arith, count-cons (λ k. j == k) a n)

-- one test holds one slot of a range at most, and none where it holds none
count-held : (o : Option ℕ) (n : ℕ)
    → count_by (λ k. option_map_or (λ j. j == k) o false) (range_with_len 0 n) ≤ cond (is_some o) 1 0
count-held None n = omega (arith, count-none n 0)
count-held (Some j) n = count-one j n 0

-- no more pass either of two tests than pass the one and the other together
count-either : (f g : ℕ → Bool) (ks : List ℕ) → count_by (λ k. f k || g k) ks ≤ count_by f ks + count_by g ks
count-either f g [] = omega arith
count-either f g (k ∷ ks) =
    omega (
      arith,
      either (f k) (g k),
      count-either f g ks,
      sum_by-cons (λ k. cond (f k || g k) 1 0) k ks,
      sum_by-cons (λ k. cond (f k) 1 0) k ks,
      sum_by-cons (λ k. cond (g k) 1 0) k ks,
    )
  where
    either : (a b : Bool) → cond (a || b) 1 0 ≤ cond a 1 0 + cond b 1 0
    either true b = omega arith
    either false b = omega arith

-- of a range of slots no more are held than there are tests that hold one
held_within : (slot : Test → Option ℕ) (ts : List Test) (n : ℕ)
    → count_by (λ k. list_any (holds slot k) ts) (range_with_len 0 n) ≤ count_by (λ t. is_some (slot t)) ts
held_within slot [] n = omega (arith, count-none n 0)
held_within slot (t ∷ ts) n =
    omega (
      arith,
      count-either (λ k. holds slot k t) (λ k. list_any (holds slot k) ts) (range_with_len 0 n),
      count-held (slot t) n,
      held_within slot ts n,
      sum_by-cons (λ t. cond (is_some (slot t)) 1 0) t ts,
    )

-- where one test holds no slot, fewer hold one than there are tests
some_without : (slot : Test → Option ℕ) (ts : List Test) (k : ℕ) (d : Test) → k < length ts
    → slot (get_or ts k d) ≡ None → count_by (λ t. is_some (slot t)) ts < length ts
some_without slot [] k d inside none = absurd (omega arith)
some_without slot (t ∷ ts) zero d inside none =
    let first : cond {A = ℕ} (is_some (slot t)) 1 0 ≡ 0 = ap (λ o. cond (is_some o) 1 0) none in
    omega (
      arith,
      sum_by-cons (λ t. cond (is_some (slot t)) 1 0) t ts,
      count_by-le-length (λ t. is_some (slot t)) ts,
    )
some_without slot (t ∷ ts) (suc k) d inside none =
    omega (
      arith,
      at_most (is_some (slot t)),
      sum_by-cons (λ t. cond (is_some (slot t)) 1 0) t ts,
      some_without slot ts k d (omega arith) none,
    )
  where
    at_most : (b : Bool) → cond b 1 0 ≤ 1
    at_most true = omega arith
    at_most false = omega arith

-- the least free slot is held by no test, where one of the tests holds none
pub least_free_is : (slot : Test → Option ℕ) (ts : List Test) (k : ℕ) (d : Test) → k < length ts
    → slot (get_or ts k d) ≡ None → list_any (holds slot (least_free slot ts)) ts ≡ false
least_free_is slot ts k d inside none = by_end (nat_lt first (length ts)) refl
  where
    first : ℕ
    first = least_free slot ts

    many : length (range_with_len 0 (length ts)) ≡ length ts
    many = length-range_with_len 0 (length ts)

    at : (n : ℕ) → n < length ts → get_or (range_with_len 0 (length ts)) n 0 ≡ n
    at n h = get_or-range_with_len 0 (length ts) n 0 h ∙ zero-add n

    not_free : (b : Bool) → not b ≡ false → b ≡ true
    not_free true e = refl
    not_free false e = cc

    is_it : (b : Bool) → not b ≡ true → b ≡ false
    is_it true e = cc
    is_it false e = refl

    all_held : length ts ≤ first → (n : ℕ) → 0 ≤ n → n < 0 + length ts → list_any (holds slot n) ts ≡ true
    all_held past n low high =
        let below : n < length ts = omega arith in
        not_free (list_any (holds slot n) ts)
        (ap (λ n. not (list_any (holds slot n) ts)) (sym (at n below))
        ∙ fails_before_first (λ n. not (list_any (holds slot n) ts)) (range_with_len 0 (length ts)) n 0
        (omega (arith, past)))

    by_end : (b : Bool) → nat_lt first (length ts) ≡ b → list_any (holds slot first) ts ≡ false
    by_end true e =
        let below : first < length ts = grind (arith, e) in
        is_it (list_any (holds slot first) ts)
        (ap (λ n. not (list_any (holds slot n) ts)) (sym (at first below))
        ∙ passes_at_first (λ n. not (list_any (holds slot n) ts)) (range_with_len 0 (length ts)) 0
        (omega (arith, below, many)))
    by_end false e =
        let past : length ts ≤ first = grind (arith, e) in
        let all : count_by (λ n. list_any (holds slot n) ts) (range_with_len 0 (length ts)) ≡ length ts =
        count-all (λ n. list_any (holds slot n) ts) (length ts) 0 (all_held past) in
        absurd (omega (arith, held_within slot ts (length ts), some_without slot ts k d inside none))
