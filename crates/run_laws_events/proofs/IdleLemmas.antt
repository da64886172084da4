-- Where no test is in use and one waits, one can be admitted.
use Rattle.std.proofs.Common.{◌≡◌, ℕ, zero, suc, ◌+◌, ◌<◌, ◌≤◌, ◌&&◌, ◌||◌, min, List, [], ◌∷◌, length, get_or, Bool}
use Rattle.std.proofs.Common.{true}
use Rattle.std.proofs.Common.{false, not, cond, if◌then◌else◌, nat_lt, sum_by, Option, Some, None, is_none, is_some}
use Rattle.std.proofs.Common.{option_map, option_and_then, slice_get, slice_index, refl, ap, ◌∙◌, arith}
use Rattle.std.specs.Prelude.{int_lt}
use Rattle.std.specs.Option.{option_map_or}
use Rattle.std.specs.List.{list_any, position_or_len, zip}
use Rattle.std.proofs.lemmas.Bool.Decides.{nat_tests}
use Rattle.std.proofs.lemmas.List.{length-map}
use Rattle.std.proofs.lemmas.List.Sums.{sum_by-cons}
use Rattle.std.proofs.lemmas.Option.{slice_get-map}
use Rattle.run_capture.proofs.Facts.{true_lt}
use Rattle.run_events.specs.declared.settings.Settings.{Settings}
use Rattle.run_events.specs.declared.plan.PlanTest.{PlanTest}
use Rattle.run_admission.specs.declared.seat.Claim.{Claim}
use Rattle.run_admission.specs.declared.seat.Seat.{Seat}
use Rattle.run_admission.specs.declared.seat.Seat.TheVariants.{Waiting, Gone}
use Rattle.run_admission.specs.declared.seat.Admitted.{Admitted}
use Rattle.run_admission.specs.declared.seat.Admitted.TheVariants.{Skip as Skipped, Run}
use Rattle.run_admission.specs.declared.seat.Candidate.{Candidate}
use Rattle.run_admission.specs.declared.seat.Candidate.TheVariants.{Skip, Fits}
use Rattle.run_admission.specs.InUse.{Admissions, Test, admitted_as, candidate, candidate_at, claim_of, fits_all}
use Rattle.run_admission.specs.InUse.{fits_beside, fits_its_group, free_group_slot, free_slot, group_weight_in_use}
use Rattle.run_admission.specs.InUse.{is_in_use, is_of, is_waiting, may_come, comes_next, taken, taken_in, tests}
use Rattle.run_admission.specs.InUse.{weight_in_use}
use Rattle.run_laws_events.proofs.GreatestLemmas.{greatest}
use Rattle.run_model.specs.declared.unit_view.UnitView.{UnitView}
use Rattle.run_model.specs.Admission.{Newcomer, limits_of, newcomer_as, newcomer_skipped, test_newcomer, test_of}
use Rattle.run_events.specs.declared.stress.StressIndex.{StressIndex}

-- no seat of a list is in use
abbrev pub AreIdle : List Seat → Type 0
AreIdle seats = (j : ℕ) → is_in_use (get_or seats j Gone) ≡ false

-- so nothing is taken of a limit
none_taken : (f : Test → ℕ) → ((c : Claim) (s : Seat) → is_in_use s ≡ false → f (c, s) ≡ 0) → (cs : List Claim)
    (ss : List Seat) → AreIdle ss → sum_by f (zip cs ss) ≡ 0
none_taken f none [] ss idle = refl
none_taken f none (c ∷ cs) [] idle = refl
none_taken f none (c ∷ cs) (s ∷ ss) idle =
    let here : f (c, s) ≡ 0 = none c s (idle 0) in
    let rest : sum_by f (zip cs ss) ≡ 0 = none_taken f none cs ss (λ j. idle (suc j)) in
    omega (arith, here, rest, sum_by-cons f (c, s) (zip cs ss))

taken_none : (limit : ℕ) (c : Claim) (s : Seat) → is_in_use s ≡ false → taken limit (c, s) ≡ 0
taken_none limit c s idle = ap (λ b. if b then min c.weight limit else 0) idle

taken_in_none : (g limit : ℕ) (c : Claim) (s : Seat) → is_in_use s ≡ false → taken_in g limit (c, s) ≡ 0
taken_in_none g limit c s idle = by_group (is_of g c)
  where
    by_group : (b : Bool) → (if b then taken limit (c, s) else 0) ≡ 0
    by_group true = taken_none limit c s idle
    by_group false = refl

-- and any weight fits, since it is cut to the limit
fits_alone : (used limit weight : ℕ) → used ≡ 0 → fits_beside used limit weight ≡ true
fits_alone used limit weight none =
    let below : used + min weight limit ≤ limit = omega arith in grind (arith, nat_tests, below)

all_fit : (a : Admissions) (claim : Claim) → AreIdle a.seats → fits_all a claim ≡ true
all_fit a claim idle = fits_alone (weight_in_use a) a.threads claim.weight
    (none_taken (taken a.threads) (taken_none a.threads) a.claims a.seats idle)

groups_fit : (a : Admissions) (claim : Claim) → AreIdle a.seats → fits_its_group a claim ≡ true
groups_fit a claim idle = by_group claim.group
  where
    by_group : (o : Option ℕ)
        → option_map_or (λ g. fits_beside (group_weight_in_use a g) (slice_index a.limits g) claim.weight) o true ≡ true
    by_group None = refl
    by_group (Some g) = fits_alone (group_weight_in_use a g) (slice_index a.limits g) claim.weight
        (none_taken (taken_in g (slice_index a.limits g)) (taken_in_none g (slice_index a.limits g)) a.claims a.seats
        idle)

-- a test that waits may come
waits_comes : (a : Admissions) (claim : Claim) → AreIdle a.seats → may_come a (claim, Waiting) ≡ true
waits_comes a claim idle = by_match (not claim.matched) (groups_fit a claim idle)
  where
    by_match : (b : Bool) → fits_its_group a claim ≡ true → (b || fits_its_group a claim) ≡ true
    by_match true fits = refl
    by_match false fits = fits

some_comes : (f : Test → Bool) → ((c : Claim) → f (c, Waiting) ≡ true) → (cs : List Claim) (ss : List Seat) (j : ℕ)
    → j < length cs → get_or ss j Gone ≡ Waiting → list_any f (zip cs ss) ≡ true
some_comes f comes [] ss j within waits = absurd (omega arith)
some_comes f comes (c ∷ cs) [] j within waits = let never : is_waiting Gone ≡ true = ap is_waiting waits in cc
some_comes f comes (c ∷ cs) (s ∷ ss) zero within waits =
    ap (λ s. f (c, s) || list_any f (zip cs ss)) waits ∙ ap (λ b. b || list_any f (zip cs ss)) (comes c)
some_comes f comes (c ∷ cs) (s ∷ ss) (suc j) within waits =
    or_true (f (c, s)) (list_any f (zip cs ss)) (some_comes f comes cs ss j (omega arith) waits)
  where
    or_true : (a b : Bool) → b ≡ true → (a || b) ≡ true
    or_true true b e = refl
    or_true false b e = e

-- where a test may come, one comes next
pub some_next : (a : Admissions) → list_any (may_come a) (tests a) ≡ true → list_any (comes_next a) (tests a) ≡ true
some_next a some =
    let most = greatest (may_come a) (λ (t : Test). t.0.priority) (tests a) some in
    most.1.among (comes_next a)
    (ap (λ b. b && not (list_any (λ u. may_come a u && int_lt most.0.0.priority u.0.priority) (tests a))) most.1.passes
    ∙ ap not most.1.none_above)

-- the place of the first
pub first_within : {X : Type 0} (f : X → Bool) (xs : List X) → list_any f xs ≡ true → position_or_len f xs < length xs
first_within f [] some = cc
first_within f (x ∷ xs) some = by_first (f x) some (first_within f xs)
  where
    by_first : (b : Bool) → (b || list_any f xs) ≡ true → (list_any f xs ≡ true → position_or_len f xs < length xs)
        → cond (not b) (1 + position_or_len f xs) 0 < length (x ∷ xs)
    by_first true some rest = omega arith
    by_first false some rest = omega (arith, rest some)

zip_short : (cs : List Claim) (ss : List Seat) → length (zip cs ss) ≤ length cs
zip_short [] ss = omega arith
zip_short (c ∷ cs) [] = omega arith
zip_short (c ∷ cs) (s ∷ ss) = omega (arith, zip_short cs ss)

pub get_within : {X : Type 0} (xs : List X) (i : ℕ) → i < length xs → (x : X) × (slice_get xs i ≡ Some x)
get_within [] i within = absurd (omega arith)
get_within (x ∷ xs) zero within = (x, refl)
get_within (x ∷ xs) (suc i) within = get_within xs i (omega arith)

-- what becomes of the test there
pub admits_test : (p : Settings) (index : Option StressIndex) (us : List (Option UnitView)) (i : ℕ) (test : PlanTest)
    (skip : Option (List ℕ))
    → slice_get p.plan.tests i ≡ Some test → test.skip ≡ skip
    → candidate (limits_of p us) ≡ Some (if is_none skip then Fits i else Skip i)
    → is_some (test_newcomer p index us) ≡ true
admits_test p index us i test None planned skip comes =
    let r : Admitted = Run i (free_slot a) (option_and_then (free_group_slot a) (slice_get a.claims i)) in
    ap (λ o. is_some (option_and_then becomes (option_and_then (admitted_as a) o))) comes
    ∙ ap (λ o. is_some (newcomer_as p index us r o)) planned
  where
    a : Admissions
    a = limits_of p us

    becomes : Admitted → Option Newcomer
    becomes r = newcomer_as p index us r (slice_get p.plan.tests (test_of r))
admits_test p index us i test (Some reason) planned skip comes =
    ap (λ o. is_some (option_and_then becomes (option_and_then (admitted_as a) o))) comes
    ∙ ap (λ o. is_some (newcomer_as p index us (Skipped i) o)) planned
    ∙ ap (λ o. is_some (newcomer_skipped p index i test o)) skip
  where
    a : Admissions
    a = limits_of p us

    becomes : Admitted → Option Newcomer
    becomes r = newcomer_as p index us r (slice_get p.plan.tests (test_of r))

-- so where no seat is in use and a test waits, one is admitted
pub admits_first : (p : Settings) (index : Option StressIndex) (us : List (Option UnitView)) (j : ℕ)
    → AreIdle (limits_of p us).seats
    → j < length p.plan.tests → get_or (limits_of p us).seats j Gone ≡ Waiting
    → is_some (test_newcomer p index us) ≡ true
admits_first p index us j idle within waits =
    admits_test p index us i found.0 found.0.skip found.1 refl
    (ap (λ b. option_and_then at (cond b (Some i) None)) (true_lt i (length (tests a)) first)
    ∙ ap (option_map (λ claim. candidate_at i claim (fits_all a claim)))
    (slice_get-map (claim_of p.plan.groups) p.plan.tests i ∙ ap (option_map (claim_of p.plan.groups)) found.1)
    ∙ ap (λ fits. Some (candidate_at i (claim_of p.plan.groups found.0) fits))
    (all_fit a (claim_of p.plan.groups found.0) idle)
    ∙ by_skip (is_none found.0.skip))
  where
    a : Admissions
    a = limits_of p us

    i : ℕ
    i = position_or_len (comes_next a) (tests a)

    at : ℕ → Option Candidate
    at test = option_map (λ claim. candidate_at test claim (fits_all a claim)) (slice_get a.claims test)

    some : list_any (may_come a) (tests a) ≡ true
    some = some_comes (may_come a) (λ c. waits_comes a c idle) a.claims a.seats j
        (omega (arith, length-map p.plan.tests (claim_of p.plan.groups))) waits

    first : i < length (tests a)
    first = first_within (comes_next a) (tests a) (some_next a some)

    found : (test : PlanTest) × (slice_get p.plan.tests i ≡ Some test)
    found = get_within p.plan.tests i
        (omega (arith, first, zip_short a.claims a.seats, length-map p.plan.tests (claim_of p.plan.groups)))

    by_skip : (b : Bool)
        → Some (if b then (if true then Fits i else Skip i) else Skip i) ≡ Some (if b then Fits i else Skip i)
    by_skip true = refl
    by_skip false = refl
