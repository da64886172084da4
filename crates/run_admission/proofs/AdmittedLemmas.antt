-- A test that is admitted to run fits: the limits are kept with it, and its slots are its own.
use Rattle.std.proofs.Common.{◌≡◌, ℕ, ◌+◌, ◌<◌, ◌≤◌, ◌||◌, List, length, get_or, set, min, Bool, true}
use Rattle.std.proofs.Common.{false, not, if◌then◌else◌, Option, Some, None, option_map, option_and_then, slice_get}
use Rattle.std.proofs.Common.{slice_index, position, sum_by, refl, ap, sym, subst, ◌∙◌, arith}
use Rattle.std.specs.Option.{option_map_or}
use Rattle.std.specs.List.{list_any, zip}
use Rattle.std.specs.Cmp.{first_so, second_so}
use Rattle.std.proofs.lemmas.Option.{same_Some, slice_get_within, get_or_from_slice_get}
use Rattle.std.proofs.lemmas.List.Sums.{sum_by-set}
use Rattle.std.proofs.lemmas.List.Quantifiers.{position-Some}
use Rattle.std.proofs.lemmas.Slice.Zip.{length-zip, get_or-zip}
use Rattle.run_admission.specs.declared.seat.Claim.{Claim}
use Rattle.run_admission.specs.declared.seat.Seat.{Seat}
use Rattle.run_admission.specs.declared.seat.Seat.TheVariants.{Waiting, InUse, Gone}
use Rattle.run_admission.specs.declared.seat.Admitted.TheVariants.{Run}
use Rattle.run_admission.specs.InUse.{Admissions, Test, tests, is_waiting, is_of, taken, taken_in, fits_beside}
use Rattle.run_admission.specs.InUse.{fits_its_group, may_come, comes_next, fits_all, candidate_at}
use Rattle.run_admission.specs.InUse.{slot_of, slot_in, holds, least_free, free_slot, free_group_slot, admitted_as}
use Rattle.run_admission.specs.InUse.{admitted, group_weight_in_use}
use Rattle.run_admission.specs.InUse.{seat_group_slot}
use Rattle.run_admission.specs.Kept.{nobody}
use Rattle.run_admission.proofs.ListLemmas.{zip_set}
use Rattle.run_admission.proofs.TestLemmas.{held_is}
use Rattle.run_admission.proofs.FewerLemmas.{AreKept}
use Rattle.run_admission.proofs.FreeLemmas.{least_free_is}
use Rattle.run_admission.proofs.OwnLemmas.{own_after}

-- a test that is admitted to run: it waited, it fits within the limits, and it gets the least free slots
pub record IsRun (a : Admissions) (k global : ℕ) (group : Option ℕ) : Type 0 where
  pub claim : Claim
  pub claimed : slice_get a.claims k ≡ Some claim
  pub within : k < length a.seats
  pub waits : is_waiting (get_or a.seats k Gone) ≡ true
  pub fits : fits_all a claim ≡ true
  pub in_group : fits_its_group a claim ≡ true
  pub slot : global ≡ free_slot a
  pub slot_within : group ≡ free_group_slot a claim

-- the first test that may come next waits, and has room in its group where it is to run
came : (a : Admissions) (k : ℕ) (claim : Claim) → position (comes_next a) (tests a) ≡ Some k
    → slice_get a.claims k ≡ Some claim
    → (k < length a.seats) × (is_waiting (get_or a.seats k Gone) ≡ true)
    × ((not claim.matched || fits_its_group a claim) ≡ true)
came a k claim place at =
    let found = position-Some (comes_next a) (tests a) k nobody place in
    let both : k < min (length a.claims) (length a.seats) = omega (arith, found.0, length-zip a.claims a.seats) in
    let is = get_or-zip a.claims a.seats k nobody (grind arith) (grind arith) in
    let same : get_or a.claims k nobody.0 ≡ claim = get_or_from_slice_get a.claims k claim nobody.0 at in
    let comes : may_come a (claim, get_or a.seats k Gone) ≡ true =
    ap (λ c. may_come a (c, get_or a.seats k Gone)) (sym same) ∙ ap (may_come a) (sym is)
    ∙ first_so _ _ found.1 in (
      grind arith,
      first_so _ _ comes,
      second_so (is_waiting (get_or a.seats k Gone)) _ comes,
    )

-- a test that is admitted to run is one that fits
pub run_is : (a : Admissions) (k global : ℕ) (group : Option ℕ) → admitted a ≡ Some (Run k global group)
    → IsRun a k global group
run_is a k global group e = by_place (position (comes_next a) (tests a)) refl e
  where
    by_kind : (j : ℕ) (claim : Claim) (matched fits : Bool) → slice_get a.claims j ≡ Some claim
        → position (comes_next a) (tests a) ≡ Some j → claim.matched ≡ matched → fits_all a claim ≡ fits
        → admitted_as a (candidate_at j claim fits) ≡ Some (Run k global group) → IsRun a k global group
    by_kind j claim false fits at place m f e = let never = rw m at e in cc
    by_kind j claim true false at place m f e = let never = rw m at e in cc
    by_kind j claim true true at place m f e =
        let first = came a j claim place at in
        let it : Run j (free_slot a) (option_and_then (free_group_slot a) (slice_get a.claims j)) ≡ Run k global group =
        same_Some _ _ (rw m at e) in
        let same : j ≡ k = cc in
        let all : free_slot a ≡ global = cc in
        let part : option_and_then (free_group_slot a) (slice_get a.claims j) ≡ group = cc in
        subst (λ k. IsRun a k global group) same (record {
          claim = claim;
          claimed = at;
          within = first.0;
          waits = first.1;
          fits = f;
          in_group = ap (λ b. not b || fits_its_group a claim) (sym m) ∙ first.2;
          slot = sym all;
          slot_within = sym part ∙ ap (option_and_then (free_group_slot a)) at;
        })

    by_claim : (j : ℕ) (c : Option Claim) → slice_get a.claims j ≡ c → position (comes_next a) (tests a) ≡ Some j
        → option_and_then (admitted_as a) (option_map (λ claim. candidate_at j claim (fits_all a claim)) c)
        ≡ Some (Run k global group)
        → IsRun a k global group
    by_claim j None at place e = cc
    by_claim j (Some claim) at place e = by_kind j claim claim.matched (fits_all a claim) at place refl refl e

    by_place : (o : Option ℕ) → position (comes_next a) (tests a) ≡ o
        → option_and_then (admitted_as a) (option_and_then
        (λ test. option_map (λ claim. candidate_at test claim (fits_all a claim)) (slice_get a.claims test)) o)
        ≡ Some (Run k global group)
        → IsRun a k global group
    by_place None place e = cc
    by_place (Some j) place e = by_claim j (slice_get a.claims j) refl place e

-- tests take no more together, after one moved, than they took and what that one takes now
sum_after : (f : Test → ℕ) (ts : List Test) (k : ℕ) (t : Test) → k < length ts
    → sum_by f (set ts k t) ≤ sum_by f ts + f t
sum_after f ts k t inside = omega (arith, sum_by-set f ts k t nobody inside)

-- what fits beside the weight in use is within the limit with it
pub fits_is : (used limit weight : ℕ) → fits_beside used limit weight ≡ true → used + min weight limit ≤ limit
fits_is used limit weight e = grind (arith, e)

-- a test that waits holds no slot
waiting_slot : (c : Claim) (s : Seat) → is_waiting s ≡ true → slot_of (c, s) ≡ None
waiting_slot c Waiting e = refl
waiting_slot c (InUse n m) e = cc
waiting_slot c Gone e = cc

-- a test that waits holds no slot within a group
waiting_slot_in : (g : ℕ) (c : Claim) (s : Seat) → is_waiting s ≡ true → slot_in g (c, s) ≡ None
waiting_slot_in g c s e = by_group (is_of g c)
  where
    by_seat : (s : Seat) → is_waiting s ≡ true → seat_group_slot s ≡ None
    by_seat Waiting e = refl
    by_seat (InUse n m) e = cc
    by_seat Gone e = cc

    by_group : (b : Bool) → ◌≡◌ {A = Option ℕ} (if b then seat_group_slot s else None) None
    by_group true = by_seat s e
    by_group false = refl

-- the tests in use keep the limits and hold slots of their own, with the test that is admitted to run
pub kept_admitted : (a : Admissions) (k global : ℕ) (group : Option ℕ) → admitted a ≡ Some (Run k global group)
    → AreKept a → AreKept (record a { seats = set a.seats k (InUse global group) })
kept_admitted a k global group e kept = by_run (run_is a k global group e)
  where
    by_run : IsRun a k global group → AreKept (record a { seats = set a.seats k (InUse global group) })
    by_run r = (
      record {
        all = subst (λ ts. sum_by (taken a.threads) ts ≤ a.threads) (sym after)
            (omega (arith, sum_after (taken a.threads) (tests a) k now inside, fits_is _ _ _ r.fits));
        groups = λ g below. subst (λ ts. sum_by (taken_in g (slice_index a.limits g)) ts ≤ slice_index a.limits g)
            (sym after)
            (in_group g below (is_of g r.claim) refl);
      },
      record {
        all = λ i j n e f. own_after slot_of (tests a) k now inside all_free kept.1.all i j n
            (ap (λ ts. option_and_then slot_of (slice_get ts i)) (sym after) ∙ e)
            (ap (λ ts. option_and_then slot_of (slice_get ts j)) (sym after) ∙ f);
        groups = λ g i j n below e f. own_after (slot_in g) (tests a) k now inside (group_free g)
            (λ i j n e f. kept.1.groups g i j n below e f) i j n
            (ap (λ ts. option_and_then (slot_in g) (slice_get ts i)) (sym after) ∙ e)
            (ap (λ ts. option_and_then (slot_in g) (slice_get ts j)) (sym after) ∙ f);
      },
    )
      where
        now : Test
        now = (r.claim, InUse global group)

        planned : k < length a.claims
        planned = slice_get_within a.claims k r.claim r.claimed

        inside : k < length (tests a)
        inside = let within = r.within in omega (arith, planned, within, length-zip a.claims a.seats)

        claims : get_or a.claims k nobody.0 ≡ r.claim
        claims = get_or_from_slice_get a.claims k r.claim nobody.0 r.claimed

        after : zip a.claims (set a.seats k (InUse global group)) ≡ set (tests a) k now
        after = zip_set a.claims a.seats k nobody.0 (InUse global group) planned
            ∙ ap (λ c. set (tests a) k (c, InUse global group)) claims

        was : get_or (tests a) k nobody ≡ (get_or a.claims k nobody.0, get_or a.seats k nobody.1)
        was = get_or-zip a.claims a.seats k nobody planned r.within

        all_free : (n : ℕ) → slot_of now ≡ Some n → list_any (holds slot_of n) (tests a) ≡ false
        all_free n is =
            let same : free_slot a ≡ n = sym r.slot ∙ same_Some global n is in
            subst (λ n. list_any (holds slot_of n) (tests a) ≡ false) same
            (least_free_is slot_of (tests a) k nobody inside
            (ap slot_of was ∙ waiting_slot (get_or a.claims k nobody.0) (get_or a.seats k Gone) r.waits))

        in_group : (g : ℕ) → g < length a.limits → (b : Bool) → is_of g r.claim ≡ b
            → sum_by (taken_in g (slice_index a.limits g)) (set (tests a) k now) ≤ slice_index a.limits g
        in_group g below true is =
            let limit : ℕ = slice_index a.limits g in
            let takes : taken_in g limit now ≡ min r.claim.weight limit =
            ap (λ b. if b then taken limit now else 0) is in
            let fits : fits_beside (group_weight_in_use a g) limit r.claim.weight ≡ true =
            ap (λ o. option_map_or
            (λ g. fits_beside (group_weight_in_use a g) (slice_index a.limits g) r.claim.weight) o true)
            (sym (held_is g r.claim.group is)) ∙ r.in_group in
            omega (
              arith,
              sum_after (taken_in g limit) (tests a) k now inside,
              fits_is (group_weight_in_use a g) limit r.claim.weight fits,
            )
        in_group g below false is =
            let limit : ℕ = slice_index a.limits g in
            let none : taken_in g limit now ≡ 0 = ap (λ b. if b then taken limit now else 0) is in
            omega (arith, sum_after (taken_in g limit) (tests a) k now inside, kept.0.groups g below)

        group_free : (g n : ℕ) → slot_in g now ≡ Some n → list_any (holds (slot_in g) n) (tests a) ≡ false
        group_free g n is = by_group (is_of g r.claim) refl is
          where
            by_group : (b : Bool) → is_of g r.claim ≡ b → (if b then group else None) ≡ Some n
                → list_any (holds (slot_in g) n) (tests a) ≡ false
            by_group false of e = cc
            by_group true of e =
                let is : group ≡ Some (least_free (slot_in g) (tests a)) =
                r.slot_within ∙ ap (option_map (λ g. least_free (slot_in g) (tests a))) (held_is g r.claim.group of) in
                let same : least_free (slot_in g) (tests a) ≡ n = same_Some _ _ (sym is ∙ e) in
                subst (λ n. list_any (holds (slot_in g) n) (tests a) ≡ false) same
                (least_free_is (slot_in g) (tests a) k nobody inside
                (ap (slot_in g) was ∙ waiting_slot_in g (get_or a.claims k nobody.0) (get_or a.seats k Gone) r.waits))
