-- What is kept says what the rule says.
use Rattle.std.proofs.Common.{◌≡◌, ℕ, zero, suc, ◌+◌, ◌<◌, ◌≤◌, ◌&&◌, ◌||◌, List, [], ◌∷◌, length, get_or}
use Rattle.std.proofs.Common.{set, map}
use Rattle.std.proofs.Common.{Bool, true, false, not, if◌then◌else◌, Option, Some, None, min, refl, ap, sym, subst, ◌∙◌}
use Rattle.std.proofs.Common.{arith}
use Rattle.std.proofs.Common.{slice_get, slice_index, count_by, option_map, option_and_then, position, sum_by}
use Rattle.std.proofs.lemmas.List.{map-set, set-get_or, get_or_read}
use Rattle.std.specs.Option.{option_map_or}
use Rattle.std.specs.List.{zip}
use Rattle.std.specs.Cmp.{first_so}
use Rattle.std.proofs.lemmas.Option.{same_Some, slice_get-get_or}
use Rattle.std.proofs.lemmas.List.Sums.{sum-map}
use Rattle.std.proofs.lemmas.List.Quantifiers.{position-Some}
use Rattle.run_capture.proofs.Facts.{both_true}
use Rattle.run_admission.specs.declared.seat.Claim.{Claim}
use Rattle.run_admission.specs.declared.seat.Seat.{Seat}
use Rattle.run_admission.specs.declared.seat.Seat.TheVariants.{Waiting, InUse, Gone}
use Rattle.run_admission.specs.declared.seat.Candidate.{Candidate}
use Rattle.run_admission.specs.declared.seat.Candidate.TheVariants.{Skip, Fits, Blocked}
use Rattle.run_admission.specs.declared.seat.Admitted.TheVariants.{Run}
use Rattle.run_admission.specs.InUse.{Admissions, Test, taken, taken_in, slot_of, slot_in, is_waiting, is_in_use}
use Rattle.run_admission.specs.InUse.{fits_beside}
use Rattle.run_admission.specs.InUse.{group_weight_in_use, fits_its_group, fits_all, may_come, comes_next, candidate_at}
use Rattle.run_admission.specs.InUse.{candidate, free_slot, free_group_slot, admitted, admitted_as, seats_after}
use Rattle.run_admission.specs.InUse.{after_admission, released, least_free}
use Rattle.run_admission.specs.Kept.{Use, IsWhole, IsOfAll, IsOfGroup, nobody, free_in, comes, fits_in, seen}
use Rattle.run_admission.specs.Kept.{free_within, take_of, take_in, give_back, give_in}
use Rattle.run_admission.proofs.ListLemmas.{get_or_zip, length_zip}
use Rattle.run_admission.proofs.OpenLemmas.{open_slot, open_in_group}
use Rattle.run_admission.proofs.TestLemmas.{least_is, may_take}
use Rattle.run_admission.proofs.WholeLemmas.{limit_at, of_same, CanRun, CanLeave, can_leave, run_whole, release_whole}
use Rattle.run_admission.proofs.GroupLemmas.{free_is}
use Rattle.run_admission.proofs.AdmittedLemmas.{fits_is}

-- the weight in use is what is kept of it
pub all_used : (u : Use) (ts : List Test) → IsOfAll u ts → sum_by (taken u.limit) ts ≡ u.used
all_used u ts kept = sym (kept.sum ∙ sum-map (taken u.limit) ts)

pub group_used : (g : ℕ) (u : Use) (ts : List Test) → IsOfGroup g u ts → sum_by (taken_in g u.limit) ts ≡ u.used
group_used g u ts kept = sym (kept.sum ∙ sum-map (taken_in g u.limit) ts)

-- the limit of a group, as it is seen
pub limit_is : (us : List Use) (g : ℕ) (u : Use) → slice_get us g ≡ Some u
    → slice_index (map (λ u. u.limit) us) g ≡ u.limit
limit_is [] g u e = cc
limit_is (v ∷ us) zero u e = ap (λ u. u.limit) (same_Some v u e)
limit_is (v ∷ us) (suc g) u e = limit_is us g u e

-- whether a test fits within its group
fits_same : (whole : Use) (us : List Use) (claims : List Claim) (seats : List Seat) (claim : Claim) (o : Option ℕ)
    → claim.group ≡ o → ((g : ℕ) → o ≡ Some g → g < length us)
    → ((g : ℕ) (u : Use) → slice_get us g ≡ Some u → IsOfGroup g u (zip claims seats))
    → fits_in us claim ≡ fits_its_group (seen whole us claims seats) claim
fits_same whole us claims seats claim None of there kept =
    ap (λ o. option_map_or (λ g. option_map_or (λ u. fits_beside u.used u.limit claim.weight) (slice_get us g) true)
    o true) of
    ∙ sym (ap (λ o. option_map_or (λ g. fits_beside (group_weight_in_use (seen whole us claims seats) g)
    (slice_index (map (λ u. u.limit) us) g) claim.weight) o true) of)
fits_same whole us claims seats claim (Some g) of there kept =
    let u = limit_at us g (there g refl) in
    let limit : slice_index (map (λ u. u.limit) us) g ≡ u.0.limit = limit_is us g u.0 u.1 in
    ap (λ o. option_map_or (λ g. option_map_or (λ u. fits_beside u.used u.limit claim.weight) (slice_get us g) true)
    o true) of
    ∙ ap (λ o. option_map_or (λ u. fits_beside u.used u.limit claim.weight) o true) u.1
    ∙ ap (λ n. fits_beside n u.0.limit claim.weight) (sym (group_used g u.0 (zip claims seats) (kept g u.0 u.1)))
    ∙ ap (λ l. fits_beside (sum_by (taken_in g l) (zip claims seats)) l claim.weight) (sym limit)
    ∙ sym (ap (λ o. option_map_or (λ g. fits_beside (group_weight_in_use (seen whole us claims seats) g)
    (slice_index (map (λ u. u.limit) us) g) claim.weight) o true) of)

-- which tests may come next
pub come_same : (waiting : ℕ) (whole : Use) (us : List Use) (claims : List Claim) (seats : List Seat)
    → IsWhole waiting whole us claims seats → (k : ℕ) → k < length (zip claims seats)
    → comes us (get_or (zip claims seats) k nobody)
    ≡ may_come (seen whole us claims seats) (get_or (zip claims seats) k nobody)
come_same waiting whole us claims seats w k h =
    let inside : k < length seats = omega (arith, length_zip claims seats w.paired) in
    let claim = get_or claims k nobody.0 in
    let s = get_or seats k Waiting in
    let at = get_or_zip claims seats k nobody.0 Waiting nobody (omega (arith, w.paired)) inside in
    ap (comes us) at
    ∙ ap (λ b. is_waiting s && (not claim.matched || b))
    (fits_same whole us claims seats claim _ refl (w.members k) w.groups)
    ∙ sym (ap (may_come (seen whole us claims seats)) at)

-- there is no candidate
pub no_candidate : (waiting : ℕ) (whole : Use) (us : List Use) (claims : List Claim) (seats : List Seat)
    → IsWhole waiting whole us claims seats
    → position (comes_next (seen whole us claims seats)) (zip claims seats) ≡ None
    → candidate (seen whole us claims seats) ≡ None
no_candidate waiting whole us claims seats w e =
    ap (option_and_then (λ test. option_map
    (λ claim. candidate_at test claim (fits_all (seen whole us claims seats) claim))
    (slice_get claims test)))
    e

-- the candidate at a place
pub candidate_is : (waiting : ℕ) (whole : Use) (us : List Use) (claims : List Claim) (seats : List Seat) (k : ℕ)
    (claim : Claim)
    → IsWhole waiting whole us claims seats
    → position (comes_next (seen whole us claims seats)) (zip claims seats) ≡ Some k
    → slice_get claims k ≡ Some claim
    → candidate (seen whole us claims seats)
    ≡ Some (candidate_at k claim (fits_beside whole.used whole.limit claim.weight))
candidate_is waiting whole us claims seats k claim w e at =
    ap (option_and_then (λ test. option_map
    (λ claim. candidate_at test claim (fits_all (seen whole us claims seats) claim))
    (slice_get claims test)))
    e
    ∙ ap (option_map (λ claim. candidate_at k claim (fits_all (seen whole us claims seats) claim))) at
    ∙ ap (λ n. Some (candidate_at k claim (fits_beside n whole.limit claim.weight)))
    (all_used whole (zip claims seats) w.all)

-- a place that was found is that of a test
pub place_inside : (p : Test → Bool) (claims : List Claim) (seats : List Seat) (k : ℕ) → length claims ≡ length seats
    → position p (zip claims seats) ≡ Some k → k < length seats
place_inside p claims seats k same e =
    let found = position-Some p (zip claims seats) k nobody e in omega
    (arith, found.0, length_zip claims seats same)

is_waiting_true : (s : Seat) → is_waiting s ≡ true → s ≡ Waiting
is_waiting_true Waiting e = refl
is_waiting_true (InUse n m) e = cc
is_waiting_true Gone e = cc

-- a candidate is a test that waits, and has room in its group or is to be skipped
record IsChosen (whole : Use) (us : List Use) (claims : List Claim) (seats : List Seat) (c : Candidate) (k : ℕ) :
    Type 0 where
  pub inside : k < length seats
  pub waits : get_or seats k Waiting ≡ Waiting
  pub fits : (not (get_or claims k nobody.0).matched || fits_in us (get_or claims k nobody.0)) ≡ true
  pub is : c ≡ candidate_at k (get_or claims k nobody.0)
      (fits_beside whole.used whole.limit (get_or claims k nobody.0).weight)

chosen : (waiting : ℕ) (whole : Use) (us : List Use) (claims : List Claim) (seats : List Seat) (c : Candidate)
    (o : Option ℕ)
    → IsWhole waiting whole us claims seats
    → position (comes_next (seen whole us claims seats)) (zip claims seats) ≡ o
    → candidate (seen whole us claims seats) ≡ Some c → (k : ℕ) × IsChosen whole us claims seats c k
chosen waiting whole us claims seats c None w e is =
    let bad : None ≡ Some c = sym (no_candidate waiting whole us claims seats w e) ∙ is in cc
chosen waiting whole us claims seats c (Some k) w e is = (
  k,
  record {
    inside = inside;
    waits = is_waiting_true _ both.0;
    fits = both.1;
    is = same_Some c _ (sym is ∙ candidate_is waiting whole us claims seats k claim w e
        (slice_get-get_or claims k nobody.0 (omega (arith, w.paired, inside))));
  },
)
  where
    claim : Claim
    claim = get_or claims k nobody.0

    inside : k < length seats
    inside = place_inside (comes_next (seen whole us claims seats)) claims seats k w.paired e

    passes : comes us (get_or claims k nobody.0, get_or seats k Waiting) ≡ true
    passes =
        ap (comes us) (sym (get_or_zip claims seats k nobody.0 Waiting nobody (omega (arith, w.paired, inside)) inside))
        ∙ come_same waiting whole us claims seats w k (omega (arith, inside, length_zip claims seats w.paired))
        ∙ first_so _ _ (position-Some (comes_next (seen whole us claims seats)) (zip claims seats) k nobody e).1

    both : (is_waiting (get_or seats k Waiting) ≡ true)
        × ((not (get_or claims k nobody.0).matched || fits_in us (get_or claims k nobody.0)) ≡ true)
    both = both_true _ _ passes

-- the kind of a candidate says why it is one
skips : (t k : ℕ) (claim : Claim) (b m : Bool) → m ≡ claim.matched → Skip t ≡ candidate_at k claim b → k ≡ t
skips t k claim true true of e = let bad : Skip t ≡ Fits k = e ∙ ap (λ m. if m then Fits k else Skip k) (sym of) in cc
skips t k claim false true of e = let bad : Skip t ≡ Blocked k = e
    ∙ ap (λ m. if m then Blocked k else Skip k) (sym of) in cc
skips t k claim b false of e =
    let same : Skip t ≡ Skip k = e ∙ ap (λ m. if m then (if b then Fits k else Blocked k) else Skip k) (sym of) in cc

runs : (t k : ℕ) (claim : Claim) (b m : Bool) → m ≡ claim.matched → Fits t ≡ candidate_at k claim b
    → (k ≡ t) × (claim.matched ≡ true) × (b ≡ true)
runs t k claim true true of e =
    let same : Fits t ≡ Fits k = e ∙ ap (λ m. if m then Fits k else Skip k) (sym of) in (cc, sym of, refl)
runs t k claim false true of e = let bad : Fits t ≡ Blocked k = e
    ∙ ap (λ m. if m then Blocked k else Skip k) (sym of) in cc
runs t k claim b false of e =
    let bad : Fits t ≡ Skip k = e ∙ ap (λ m. if m then (if b then Fits k else Blocked k) else Skip k) (sym of) in cc

-- a candidate that is to be skipped waits
pub can_skip : (waiting : ℕ) (whole : Use) (us : List Use) (claims : List Claim) (seats : List Seat) (t : ℕ)
    → IsWhole waiting whole us claims seats → candidate (seen whole us claims seats) ≡ Some (Skip t)
    → (t < length seats) × (get_or seats t Waiting ≡ Waiting)
can_skip waiting whole us claims seats t w is =
    let found = chosen waiting whole us claims seats (Skip t)
    (position (comes_next (seen whole us claims seats)) (zip claims seats)) w refl is in
    let same : found.0 ≡ t = skips t found.0 (get_or claims found.0 nobody.0) _ _ refl found.1.is in
    (omega (arith, same, found.1.inside), ap (λ k. get_or seats k Waiting) (sym same) ∙ found.1.waits)

-- a candidate that fits can run
pub can_run : (waiting : ℕ) (whole : Use) (us : List Use) (claims : List Claim) (seats : List Seat) (t : ℕ)
    → IsWhole waiting whole us claims seats → candidate (seen whole us claims seats) ≡ Some (Fits t)
    → CanRun whole us claims seats t
can_run waiting whole us claims seats t w is =
    let found = chosen waiting whole us claims seats (Fits t)
    (position (comes_next (seen whole us claims seats)) (zip claims seats)) w refl is in
    let so = runs t found.0 (get_or claims found.0 nobody.0) _ _ refl found.1.is in
    subst (CanRun whole us claims seats) so.0
    (chosen_runs waiting whole us claims seats found.0 w found.1.inside found.1.waits
    so.1 (ap (λ m. not m || fits_in us (get_or claims found.0 nobody.0)) (sym so.1) ∙ found.1.fits) so.2)
  where
    chosen_runs : (waiting : ℕ) (whole : Use) (us : List Use) (claims : List Claim) (seats : List Seat) (k : ℕ)
        → IsWhole waiting whole us claims seats → k < length seats → get_or seats k Waiting ≡ Waiting
        → (get_or claims k nobody.0).matched ≡ true → fits_in us (get_or claims k nobody.0) ≡ true
        → fits_beside whole.used whole.limit (get_or claims k nobody.0).weight ≡ true → CanRun whole us claims seats k
    chosen_runs waiting whole us claims seats k w inside waits matched within all = record {
      inside = inside;
      waits = waits;
      matched = matched;
      can = may_take whole (taken whole.limit) slot_of claims seats claim.weight w.paired w.few
          (omega (arith, w.slots, open_slot claims seats k w.paired inside waits)) (fits_is _ _ _ all) w.all;
      cans = λ g u of e.
          may_take u (taken_in g u.limit) (slot_in g) claims seats claim.weight w.paired w.few
          (omega (arith, w.places g u e, open_in_group g claims seats k w.paired inside (of_same g g _ of refl) waits))
          (fits_is _ _ _ (sym (ap (λ o. option_map_or (λ u. fits_beside u.used u.limit claim.weight) o true) e)
          ∙ sym (ap (λ o. option_map_or
          (λ g. option_map_or (λ u. fits_beside u.used u.limit claim.weight) (slice_get us g) true) o true) of)
          ∙ within))
          (w.groups g u e);
    }
      where
        claim : Claim
        claim = get_or claims k nobody.0

-- the slots of a test that runs
slot_within : (us : List Use) (ts : List Test) (o : Option ℕ) → ((g : ℕ) → o ≡ Some g → g < length us)
    → ((g : ℕ) (u : Use) → slice_get us g ≡ Some u → IsOfGroup g u ts)
    → option_map (λ g. least_free (slot_in g) ts) o ≡ free_within us o
slot_within us ts None there kept = refl
slot_within us ts (Some g) there kept =
    let u = limit_at us g (there g refl) in
    ap (λ n. Some n) (least_is u.0 (map (taken_in g u.0.limit) ts) (slot_in g) ts refl (kept g u.0 u.1))
    ∙ sym (free_is us g u.0 u.1)

-- what is admitted, where the candidate fits
pub run_admitted : (waiting : ℕ) (whole : Use) (us : List Use) (claims : List Claim) (seats : List Seat) (k : ℕ)
    → IsWhole waiting whole us claims seats → candidate (seen whole us claims seats) ≡ Some (Fits k) → k < length seats
    → admitted (seen whole us claims seats)
    ≡ Some (Run k (free_in whole) (free_within us (get_or claims k nobody.0).group))
run_admitted waiting whole us claims seats k w is inside =
    let claim = get_or claims k nobody.0 in
    let a = seen whole us claims seats in
    ap (option_and_then (admitted_as a)) is
    ∙ ap (λ o. Some (Run k (free_slot a) (option_and_then (free_group_slot a) o)))
    (slice_get-get_or claims k nobody.0 (omega (arith, w.paired, inside)))
    ∙ ap (λ n. Some (Run k n (free_group_slot a claim)))
    (least_is whole (map (taken whole.limit) (zip claims seats)) slot_of (zip claims seats) refl w.all)
    ∙ ap (λ o. Some (Run k (free_in whole) o)) (slot_within us (zip claims seats) claim.group (w.members k) w.groups)

-- the limits stay
limits_set : (us : List Use) (g : ℕ) (u v : Use) → slice_get us g ≡ Some u → v.limit ≡ u.limit
    → map (λ u. u.limit) (set us g v) ≡ map (λ u. u.limit) us
limits_set us g u v e same =
    map-set (λ u. u.limit) us g v ∙ ap (set (map (λ u. u.limit) us) g) (same ∙ sym (limit_is us g u e))
    ∙ set-get_or (map (λ u. u.limit) us) g 0

pub limits_take : (us : List Use) (o : Option ℕ) (k w : ℕ)
    → map (λ u. u.limit) (take_in us o k w) ≡ map (λ u. u.limit) us
limits_take us None k w = refl
limits_take us (Some g) k w = by_place (slice_get us g) refl
  where
    by_place : (o : Option Use) → slice_get us g ≡ o
        → map (λ u. u.limit) (option_map_or (λ u. set us g (take_of u k w)) o us) ≡ map (λ u. u.limit) us
    by_place None e = refl
    by_place (Some u) e = limits_set us g u (take_of u k w) e refl

pub limits_give : (us : List Use) (o m : Option ℕ) (w : ℕ)
    → map (λ u. u.limit) (give_in us o m w) ≡ map (λ u. u.limit) us
limits_give us None m w = refl
limits_give us (Some g) None w = refl
limits_give us (Some g) (Some n) w = by_place (slice_get us g) refl
  where
    by_place : (o : Option Use) → slice_get us g ≡ o
        → map (λ u. u.limit) (option_map_or (λ u. set us g (give_back u n w)) o us) ≡ map (λ u. u.limit) us
    by_place None e = refl
    by_place (Some u) e = limits_set us g u (give_back u n w) e refl

-- what is seen, part by part
abbrev made : ℕ → List ℕ → List Claim → List Seat → Admissions
made threads limits claims seats = record { threads = threads; limits = limits; claims = claims; seats = seats }

-- after a test runs: what is kept, what is said of it, and what is seen
pub run_kept : (waiting next : ℕ) (whole after : Use) (us afters : List Use) (claims : List Claim) (seats : List Seat)
    (k n : ℕ)
    (m : Option ℕ) (claim : Claim) → IsWhole waiting whole us claims seats
    → candidate (seen whole us claims seats) ≡ Some (Fits k) → claim ≡ get_or claims k nobody.0 → n ≡ free_in whole
    → m ≡ free_within us claim.group → after ≡ take_of whole k claim.weight
    → afters ≡ take_in us claim.group k claim.weight → next ≡ count_by is_waiting (set seats k (InUse n m))
    → IsWhole next after afters claims (set seats k (InUse n m))
run_kept waiting next whole after us afters claims seats k n m claim w is of slot within all parts first =
    subst (λ u. IsWhole next u afters claims (set seats k (InUse n m)))
    (sym (all ∙ ap (λ c. take_of whole k c.weight) of))
    (subst (λ us. IsWhole next (take_of whole k (get_or claims k nobody.0).weight) us claims (set seats k (InUse n m)))
    (sym (parts ∙ ap (λ c. take_in us c.group k c.weight) of))
    (run_whole waiting next whole us claims seats k n m w (can_run waiting whole us claims seats k w is) slot
    (within ∙ ap (λ c. free_within us c.group) of) first))

pub run_said : (waiting : ℕ) (whole : Use) (us : List Use) (claims : List Claim) (seats : List Seat) (k n : ℕ)
    (m : Option ℕ)
    (claim : Claim) → IsWhole waiting whole us claims seats → candidate (seen whole us claims seats) ≡ Some (Fits k)
    → claim ≡ get_or claims k nobody.0 → n ≡ free_in whole → m ≡ free_within us claim.group
    → admitted (seen whole us claims seats) ≡ Some (Run k n m)
run_said waiting whole us claims seats k n m claim w is of slot within =
    run_admitted waiting whole us claims seats k w is (can_run waiting whole us claims seats k w is).inside
    ∙ ap (λ n. Some (Run k n (free_within us (get_or claims k nobody.0).group))) (sym slot)
    ∙ ap (λ m. Some (Run k n m)) (sym (within ∙ ap (λ c. free_within us c.group) of))

pub run_seen : (waiting : ℕ) (whole after : Use) (us afters : List Use) (claims : List Claim) (seats : List Seat)
    (k n : ℕ)
    (m : Option ℕ) (claim : Claim) → IsWhole waiting whole us claims seats
    → candidate (seen whole us claims seats) ≡ Some (Fits k) → claim ≡ get_or claims k nobody.0 → n ≡ free_in whole
    → m ≡ free_within us claim.group → after ≡ take_of whole k claim.weight
    → afters ≡ take_in us claim.group k claim.weight
    → seen after afters claims (set seats k (InUse n m)) ≡ after_admission (seen whole us claims seats)
run_seen waiting whole after us afters claims seats k n m claim w is of slot within all parts =
    ap (λ u. seen u afters claims (set seats k (InUse n m))) all
    ∙ ap (λ us. seen (take_of whole k claim.weight) us claims (set seats k (InUse n m))) parts
    ∙ ap (λ l. made whole.limit l claims (set seats k (InUse n m))) (limits_take us claim.group k claim.weight)
    ∙ ap (λ o. made whole.limit (map (λ u. u.limit) us) claims (seats_after seats o))
    (sym (run_said waiting whole us claims seats k n m claim w is of slot within))

-- after a test was released
pub release_kept : (waiting : ℕ) (whole after : Use) (us afters : List Use) (claims : List Claim) (seats : List Seat)
    (k n : ℕ)
    (m : Option ℕ) (claim : Claim) → IsWhole waiting whole us claims seats → CanLeave whole us claims seats k n m
    → claim ≡ get_or claims k nobody.0 → after ≡ give_back whole n claim.weight
    → afters ≡ give_in us claim.group m claim.weight → IsWhole waiting after afters claims (set seats k Gone)
release_kept waiting whole after us afters claims seats k n m claim w can of all parts =
    subst (λ u. IsWhole waiting u afters claims (set seats k Gone))
    (sym (all ∙ ap (λ c. give_back whole n c.weight) of))
    (subst (λ us. IsWhole waiting (give_back whole n (get_or claims k nobody.0).weight) us claims (set seats k Gone))
    (sym (parts ∙ ap (λ c. give_in us c.group m c.weight) of))
    (release_whole waiting whole us claims seats k n m w can))

pub release_seen : (whole after : Use) (us afters : List Use) (claims : List Claim) (seats : List Seat) (k n : ℕ)
    (m : Option ℕ) (claim : Claim) → after ≡ give_back whole n claim.weight
    → afters ≡ give_in us claim.group m claim.weight
    → seen after afters claims (set seats k Gone) ≡ released (seen whole us claims seats) k
release_seen whole after us afters claims seats k n m claim all parts =
    ap (λ u. seen u afters claims (set seats k Gone)) all
    ∙ ap (λ us. seen (give_back whole n claim.weight) us claims (set seats k Gone)) parts
    ∙ ap (λ l. made whole.limit l claims (set seats k Gone)) (limits_give us claim.group m claim.weight)

-- a test in use is one of the tests
pub in_use_inside : (seats : List Seat) (k : ℕ) → is_in_use (get_or seats k Gone) ≡ true → k < length seats
in_use_inside [] k e = cc
in_use_inside (s ∷ seats) zero e = omega arith
in_use_inside (s ∷ seats) (suc k) e = let rest : k < length seats = in_use_inside seats k e in omega arith

pub may_leave : (waiting : ℕ) (whole : Use) (us : List Use) (claims : List Claim) (seats : List Seat) (k n : ℕ)
    (m : Option ℕ)
    (s : Seat) → IsWhole waiting whole us claims seats → is_in_use (get_or seats k Gone) ≡ true → s ≡ get_or seats k s
    → s ≡ InUse n m → CanLeave whole us claims seats k n m
may_leave waiting whole us claims seats k n m s w used read is =
    let inside = in_use_inside seats k used in
    can_leave waiting whole us claims seats k n m w inside (sym (get_or_read seats k s inside read Waiting) ∙ is)
