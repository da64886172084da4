-- Fewer tests in use, each in the same slots, keep what more of them keep.
use Rattle.std.proofs.Common.{◌≡◌, ℕ, zero, suc, ◌≤◌, List, [], ◌∷◌, map, Bool, true, false}
use Rattle.std.proofs.Common.{if◌then◌else◌, Option, Some, None, sum_by, slice_get, slice_index, option_and_then, refl}
use Rattle.std.proofs.Common.{ap, sym, ◌∙◌, arith}
use Rattle.std.specs.Prelude.{⊤}
use Rattle.std.specs.List.{zip}
use Rattle.std.proofs.lemmas.List.Sums.{sum_by-cons}
use Rattle.run_admission.specs.declared.seat.Claim.{Claim}
use Rattle.run_admission.specs.declared.seat.Seat.{Seat}
use Rattle.run_admission.specs.declared.seat.Seat.TheVariants.{Waiting, InUse, Gone}
use Rattle.run_admission.specs.InUse.{Admissions, Test, is_of, is_in_use, taken, taken_in, slot_of, slot_in}
use Rattle.run_admission.specs.InUse.{seat_slot, seat_group_slot}
use Rattle.run_admission.specs.Laws.{KeepsLimits, HasOwnSlots}

-- the tests in use keep the limits and hold slots of their own
abbrev pub AreKept : Admissions → Type 0
AreKept a = KeepsLimits a × HasOwnSlots a

-- a seat is below another where it is in use only as that one
abbrev pub IsBelow : Seat → Seat → Type 0
IsBelow s t = is_in_use s ≡ true → s ≡ t

-- two lists of seats, as long, of which each seat of the first is below that of the second
abbrev pub AreBelow : List Seat → List Seat → Type 0
AreBelow [] [] = ⊤
AreBelow (s ∷ ss) (t ∷ ts) = IsBelow s t × AreBelow ss ts
AreBelow _ _ = ⊥

-- the seats of some numbers, listed, are below those of the same numbers by a higher function
pub below-map : (f g : ℕ → Seat) (ks : List ℕ) → ((k : ℕ) → IsBelow (f k) (g k)) → AreBelow (map f ks) (map g ks)
below-map f g [] h = tt
below-map f g (k ∷ ks) h = (h k, below-map f g ks h)

-- a lower seat takes no more of a limit
taken_below : (limit : ℕ) (c : Claim) (s t : Seat) → IsBelow s t → taken limit (c, s) ≤ taken limit (c, t)
taken_below limit c Waiting t h = omega arith
taken_below limit c Gone t h = omega arith
taken_below limit c (InUse n m) t h =
    let same : taken limit (c, InUse n m) ≡ taken limit (c, t) = ap (λ s. taken limit (c, s)) (h refl) in omega arith

-- a lower seat takes no more of the limit of a group
taken_in_below : (g limit : ℕ) (c : Claim) (s t : Seat) → IsBelow s t
    → taken_in g limit (c, s) ≤ taken_in g limit (c, t)
taken_in_below g limit c s t h = by_group (is_of g c)
  where
    by_group : (b : Bool) → (if b then taken limit (c, s) else 0) ≤ (if b then taken limit (c, t) else 0)
    by_group true = taken_below limit c s t h
    by_group false = omega arith

-- lower seats take no more together
sum_below : (f : Test → ℕ) → ((c : Claim) (s t : Seat) → IsBelow s t → f (c, s) ≤ f (c, t)) → (cs : List Claim)
    (ss ts : List Seat) → AreBelow ss ts → sum_by f (zip cs ss) ≤ sum_by f (zip cs ts)
sum_below f le [] ss ts h = omega arith
sum_below f le (c ∷ cs) [] [] h = omega arith
sum_below f le (c ∷ cs) [] (t ∷ ts) h = absurd h
sum_below f le (c ∷ cs) (s ∷ ss) [] h = absurd h
sum_below f le (c ∷ cs) (s ∷ ss) (t ∷ ts) h =
    omega (
      arith,
      le c s t h.0,
      sum_below f le cs ss ts h.1,
      sum_by-cons f (c, s) (zip cs ss),
      sum_by-cons f (c, t) (zip cs ts),
    )

-- a slot that a lower seat holds, the higher one holds
slot_below : (c : Claim) (s t : Seat) (n : ℕ) → IsBelow s t → slot_of (c, s) ≡ Some n → slot_of (c, t) ≡ Some n
slot_below c Waiting t n h e = cc
slot_below c Gone t n h e = cc
slot_below c (InUse i m) t n h e = ap seat_slot (sym (h refl)) ∙ e

-- a slot within a group that a lower seat holds, the higher one holds
slot_in_below : (g : ℕ) (c : Claim) (s t : Seat) (n : ℕ) → IsBelow s t → slot_in g (c, s) ≡ Some n
    → slot_in g (c, t) ≡ Some n
slot_in_below g c s t n h e = by_group (is_of g c) e
  where
    by_seat : (s : Seat) → IsBelow s t → seat_group_slot s ≡ Some n → seat_group_slot t ≡ Some n
    by_seat Waiting h e = cc
    by_seat Gone h e = cc
    by_seat (InUse i m) h e = ap seat_group_slot (sym (h refl)) ∙ e

    by_group : (b : Bool) → (if b then seat_group_slot s else None) ≡ Some n
        → (if b then seat_group_slot t else None) ≡ Some n
    by_group true e = by_seat s h e
    by_group false e = e

-- a slot that the test at a place holds by lower seats, it holds by the higher ones
held_below : (slot : Test → Option ℕ)
    → ((c : Claim) (s t : Seat) (n : ℕ) → IsBelow s t → slot (c, s) ≡ Some n → slot (c, t) ≡ Some n)
    → (cs : List Claim) (ss ts : List Seat) → AreBelow ss ts → (k n : ℕ)
    → option_and_then slot (slice_get (zip cs ss) k) ≡ Some n → option_and_then slot (slice_get (zip cs ts) k) ≡ Some n
held_below slot holds [] ss ts h k n e = e
held_below slot holds (c ∷ cs) [] [] h k n e = e
held_below slot holds (c ∷ cs) [] (t ∷ ts) h k n e = absurd h
held_below slot holds (c ∷ cs) (s ∷ ss) [] h k n e = absurd h
held_below slot holds (c ∷ cs) (s ∷ ss) (t ∷ ts) h zero n e = holds c s t n h.0 e
held_below slot holds (c ∷ cs) (s ∷ ss) (t ∷ ts) h (suc k) n e = held_below slot holds cs ss ts h.1 k n e

-- lower seats keep the limits and hold slots of their own, where the higher ones do
pub kept_below : (a : Admissions) (ss : List Seat) → AreBelow ss a.seats → AreKept a → AreKept (record a { seats = ss })
kept_below a ss h kept = (
  record {
    all = omega (arith, kept.0.all, sum_below (taken a.threads) (taken_below a.threads) a.claims ss a.seats h);
    groups = λ g within.
        let limit : ℕ = slice_index a.limits g in
        omega (
          arith,
          kept.0.groups g within,
          sum_below (taken_in g limit) (taken_in_below g limit) a.claims ss a.seats h,
        );
  },
  record {
    all = λ j k n e f. kept.1.all j k n (held_below slot_of slot_below a.claims ss a.seats h j n e)
        (held_below slot_of slot_below a.claims ss a.seats h k n f);
    groups = λ g j k n within e f. kept.1.groups g j k n within
        (held_below (slot_in g) (slot_in_below g) a.claims ss a.seats h j n e)
        (held_below (slot_in g) (slot_in_below g) a.claims ss a.seats h k n f);
  },
)

-- tests that are gone take nothing
gone_takes : (f : Test → ℕ) → ((c : Claim) → f (c, Gone) ≡ 0) → (cs : List Claim) (ks : List ℕ)
    → sum_by f (zip cs (map (λ k. Gone) ks)) ≡ 0
gone_takes f none [] ks = refl
gone_takes f none (c ∷ cs) [] = refl
gone_takes f none (c ∷ cs) (k ∷ ks) =
    omega (
      arith,
      none c,
      gone_takes f none cs ks,
      sum_by-cons f (c, Gone) (zip cs (map (λ k. Gone) ks)),
    )

-- tests that are gone hold nothing
gone_holds : (slot : Test → Option ℕ) → ((c : Claim) → slot (c, Gone) ≡ None) → (cs : List Claim) (ks : List ℕ)
    → (k n : ℕ) → option_and_then slot (slice_get (zip cs (map (λ k. Gone) ks)) k) ≡ Some n → ⊥
gone_holds slot none [] ks k n e = cc
gone_holds slot none (c ∷ cs) [] k n e = cc
gone_holds slot none (c ∷ cs) (i ∷ ks) zero n e = let is : slot (c, Gone) ≡ None = none c in cc
gone_holds slot none (c ∷ cs) (i ∷ ks) (suc k) n e = gone_holds slot none cs ks k n e

-- tests that are gone keep the limits
pub kept_gone : (a : Admissions) (ks : List ℕ) → AreKept (record a { seats = map (λ k. Gone) ks })
kept_gone a ks = (
  record {
    all = omega (arith, gone_takes (taken a.threads) (λ c. refl) a.claims ks);
    groups = λ g h.
        omega (arith, gone_takes (taken_in g (slice_index a.limits g)) (λ c. none_of (is_of g c)) a.claims ks);
  },
  record {
    all = λ j k n e f. absurd (gone_holds slot_of (λ c. refl) a.claims ks j n e);
    groups = λ g j k n h e f. absurd (gone_holds (slot_in g) (λ c. nowhere (is_of g c)) a.claims ks j n e);
  },
)
  where
    none_of : (b : Bool) → ◌≡◌ {A = ℕ} (if b then 0 else 0) 0
    none_of true = refl
    none_of false = refl

    nowhere : (b : Bool) → ◌≡◌ {A = Option ℕ} (if b then None else None) None
    nowhere true = refl
    nowhere false = refl
