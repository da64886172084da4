-- How many tests wait.
use Rattle.std.proofs.Common.{◌≡◌, ◌≢◌, ℕ, zero, suc, ◌+◌, ◌<◌, ◌&&◌}
use Rattle.std.proofs.Common.{◌||◌, List, [], ◌∷◌, length, get_or, set, replicate}
use Rattle.std.proofs.Common.{Bool, true}
use Rattle.std.proofs.Common.{false, not, cond, count_by, nat_eq, refl, ap, sym, ◌∙◌, arith}
use Rattle.std.specs.List.{list_all, list_any}
use Rattle.std.proofs.lemmas.List.Sums.{count_by-le-length, sum_by-cons, sum_by-set}
use Rattle.run_admission.specs.declared.seat.Seat.{Seat}
use Rattle.run_admission.specs.declared.seat.Seat.TheVariants.{Waiting}
use Rattle.run_admission.specs.InUse.{is_waiting}

-- after a test moved to a seat in which it doesn't wait
count_set : (seats : List Seat) (k : ℕ) (s : Seat) (was : Bool) → k < length seats
    → is_waiting (get_or seats k Waiting) ≡ was → is_waiting s ≡ false
    → count_by is_waiting (set seats k s) + cond was 1 0 ≡ count_by is_waiting seats
count_set seats k s was inside is gone =
    let after : cond {A = ℕ} (is_waiting s) 1 0 ≡ 0 = ap (λ b. cond b 1 0) gone in
    let before : cond {A = ℕ} (is_waiting (get_or seats k Waiting)) 1 0 ≡ cond was 1 0 = ap (λ b. cond b 1 0) is in
    omega (arith, sum_by-set (λ s. cond (is_waiting s) 1 0) seats k s Waiting inside)

-- one fewer waits, where it did
pub one_fewer : (seats : List Seat) (k : ℕ) (s : Seat) → k < length seats → get_or seats k Waiting ≡ Waiting
    → is_waiting s ≡ false → count_by is_waiting (set seats k s) + 1 ≡ count_by is_waiting seats
one_fewer seats k s inside waits gone = count_set seats k s true inside (ap is_waiting waits) gone

-- and as many, where it didn't
pub none_fewer : (seats : List Seat) (k : ℕ) (s : Seat) → k < length seats
    → is_waiting (get_or seats k Waiting) ≡ false → is_waiting s ≡ false
    → count_by is_waiting (set seats k s) ≡ count_by is_waiting seats
none_fewer seats k s inside was gone = omega (arith, count_set seats k s false inside was gone)

-- at first all wait
pub all_wait : (n : ℕ) → n ≡ count_by is_waiting (replicate n Waiting)
all_wait zero = refl
all_wait (suc n) =
    omega (arith, all_wait n, sum_by-cons (λ s. cond (is_waiting s) 1 0) Waiting (replicate n Waiting))

-- none waits exactly where no test is one that does
pub done_is : (seats : List Seat) → nat_eq (count_by is_waiting seats) 0 ≡ not (list_any is_waiting seats)
done_is [] = refl
done_is (s ∷ ss) = by_seat (is_waiting s) refl (done_is ss)
  where
    apart : (n : ℕ) → n ≢ 0 → nat_eq n 0 ≡ false
    apart n some = grind (arith, some)

    by_seat : (b : Bool) → is_waiting s ≡ b → nat_eq (count_by is_waiting ss) 0 ≡ not (list_any is_waiting ss)
        → nat_eq (count_by is_waiting (s ∷ ss)) 0 ≡ not (list_any is_waiting (s ∷ ss))
    by_seat true e rest =
        let first : cond {A = ℕ} (is_waiting s) 1 0 ≡ 1 = ap (λ b. cond b 1 0) e in
        let some : count_by is_waiting (s ∷ ss) ≢ 0 =
        omega (arith, sum_by-cons (λ s. cond (is_waiting s) 1 0) s ss) in
        apart _ some ∙ sym (ap (λ b. not (b || list_any is_waiting ss)) e)
    by_seat false e rest =
        let first : cond {A = ℕ} (is_waiting s) 1 0 ≡ 0 = ap (λ b. cond b 1 0) e in
        let same : count_by is_waiting (s ∷ ss) ≡ count_by is_waiting ss =
        omega (arith, sum_by-cons (λ s. cond (is_waiting s) 1 0) s ss) in
        ap (λ n. nat_eq n 0) same ∙ rest ∙ sym (ap (λ b. not (b || list_any is_waiting ss)) e)

-- all wait exactly where as many wait as there are
pub all_waiting : (seats : List Seat)
    → nat_eq (count_by is_waiting seats) (length seats) ≡ list_all is_waiting seats
all_waiting [] = refl
all_waiting (s ∷ ss) = by_seat (is_waiting s) refl (all_waiting ss)
  where
    step : (n m : ℕ) → nat_eq (n + 1) (suc m) ≡ nat_eq n m
    step n m = by_case (nat_eq n m) refl
      where
        by_case : (b : Bool) → nat_eq n m ≡ b → nat_eq (n + 1) (suc m) ≡ nat_eq n m
        by_case true e = let is : n + 1 ≡ suc m = grind (arith, e) in grind (arith, e, is)
        by_case false e = let apart : n + 1 ≢ suc m = grind (arith, e) in grind (arith, e, apart)

    by_seat : (b : Bool) → is_waiting s ≡ b → nat_eq (count_by is_waiting ss) (length ss) ≡ list_all is_waiting ss
        → nat_eq (count_by is_waiting (s ∷ ss)) (length (s ∷ ss)) ≡ list_all is_waiting (s ∷ ss)
    by_seat true e rest =
        let first : cond {A = ℕ} (is_waiting s) 1 0 ≡ 1 = ap (λ b. cond b 1 0) e in
        let more : count_by is_waiting (s ∷ ss) ≡ count_by is_waiting ss + 1 =
        omega (arith, sum_by-cons (λ s. cond (is_waiting s) 1 0) s ss) in
        ap (λ n. nat_eq n (length (s ∷ ss))) more ∙ step (count_by is_waiting ss) (length ss) ∙ rest
        ∙ sym (ap (λ b. b && list_all is_waiting ss) e)
    by_seat false e rest =
        let first : cond {A = ℕ} (is_waiting s) 1 0 ≡ 0 = ap (λ b. cond b 1 0) e in
        let same : count_by is_waiting (s ∷ ss) ≡ count_by is_waiting ss =
        omega (arith, sum_by-cons (λ s. cond (is_waiting s) 1 0) s ss) in
        let apart : count_by is_waiting (s ∷ ss) ≢ suc (length ss) =
        omega (arith, same, count_by-le-length is_waiting ss) in
        let is : nat_eq (count_by is_waiting (s ∷ ss)) (suc (length ss)) ≡ false = grind (arith, apart) in
        is ∙ sym (ap (λ b. b && list_all is_waiting ss) e)
