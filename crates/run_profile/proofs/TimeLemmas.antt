-- The numbers and the parts of a time.
use Rattle.std.proofs.Common.{ℕ, zero, suc, ◌≡◌, ◌<◌, ◌≤◌, ◌+◌, ◌-◌, ◌*◌, ◌^◌, List, [], ◌∷◌, length, Some}
use Rattle.std.proofs.Common.{None}
use Rattle.std.proofs.Common.{Ok, Err, arith, nat_le, drop, get_or, false}
use Rattle.std.proofs.lemmas.List.{drop_more}
use Rattle.std.proofs.lemmas.Bool.Decides.{nat_tests}
use Rattle.run_profile.specs.Reads.{◌>>=◌}
use Rattle.run_profile.specs.Time.{within_u64, next_part, number_after, with_part, with_parts}
use Rattle.run_profile.specs.declared.time.TimeFault.{TimeFault}

-- more digits make no number less
pub number_grows : (digits : List ℕ) (n : ℕ) → n ≤ number_after n digits
number_grows [] n = omega arith
number_grows (digit ∷ digits) n =
    let more : 10 * n + (digit - 48) ≤ number_after (10 * n + (digit - 48)) digits = number_grows digits _ in
    omega arith

-- a number fits exactly where it is below the limit
pub fits_below : (n : ℕ) → n < 2 ^ 64 → within_u64 n ≡ Some n
fits_below n h = grind (arith, nat_tests)

pub fits_not : (n : ℕ) → within_u64 n ≡ None → 2 ^ 64 ≤ n
fits_not n h = grind (arith, nat_tests)

pub fits_above : (n : ℕ) → 2 ^ 64 ≤ n → within_u64 n ≡ None
fits_above n h = grind (arith, nat_tests)

pub fits_is : (n m : ℕ) → within_u64 n ≡ Some m → (m ≡ n) × (m < 2 ^ 64)
fits_is n m h = grind (arith, nat_tests)

-- a number that doesn't fit never does with more digits
pub fits_never : (n : ℕ) (digits : List ℕ) → within_u64 n ≡ None → within_u64 (number_after n digits) ≡ None
fits_never n digits h =
    let above : 2 ^ 64 ≤ n = fits_not n h in
    let more : n ≤ number_after n digits = number_grows digits n in
    fits_above _ (omega arith)

pub number_never : (n i : ℕ) (digits : List ℕ) → i < length digits
    → within_u64 (10 * n + (get_or digits i 0 - 48)) ≡ None
    → number_after n (drop i digits) ≡ number_after 0 digits → within_u64 (number_after 0 digits) ≡ None
number_never n i digits h none left =
    let more : number_after n (drop i digits) ≡ number_after (10 * n + (get_or digits i 0 - 48)) (drop (i + 1) digits)
    = rw (drop_more digits i 0 h) in
    rw (← left, more) (fits_never _ (drop (i + 1) digits) none)

nat_le_not : (a b : ℕ) → b < a → nat_le a b ≡ false
nat_le_not a b h = grind (arith, nat_tests)

-- the parts from a place on, where there are some
pub with_parts_next : (most : ℕ) (text : List ℕ) (at sum : ℕ) → 0 < most → at < length text
    → with_parts most text at sum
    ≡ (with_part text at sum >>= λ more. with_parts (most - 1) text (next_part text at) more)
with_parts_next zero text at sum some h = absurd (omega arith)
with_parts_next (suc most) text at sum some h =
    let before : suc most - 1 ≡ most = omega arith in
    rw (nat_le_not (length text) at h, before)

pub with_parts_ok : (most : ℕ) (text : List ℕ) (at sum more : ℕ) → 0 < most → at < length text
    → with_part text at sum ≡ Ok more
    → with_parts most text at sum ≡ with_parts (most - 1) text (next_part text at) more
with_parts_ok most text at sum more some h e = rw (with_parts_next most text at sum some h, e)

pub with_parts_err : (most : ℕ) (text : List ℕ) (at sum : ℕ) (e : TimeFault) → 0 < most → at < length text
    → with_part text at sum ≡ Err e → with_parts most text at sum ≡ Err e
with_parts_err most text at sum e some h is = rw (with_parts_next most text at sum some h, is)
