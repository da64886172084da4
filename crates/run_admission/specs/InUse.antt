-- What of the limits is in use, which test comes next, and the slots that it gets.
use Rattle.std.specs.Prelude.{ℕ, ◌+◌, ◌==◌, List, Bool, true, false, not, ◌&&◌, ◌||◌, if◌then◌else◌, Option, Some, None}
use Rattle.std.specs.Prelude.{min, nat_eq, nat_le, map, length, is_none, position, sum_by, option_map, option_and_then}
use Rattle.std.specs.Prelude.{int_lt, replicate, slice_get, slice_index, slice_index_or, slice_set}
use Rattle.std.specs.Option.{option_map_or}
use Rattle.std.specs.List.{zip, range_with_len, list_any, position_or_len}
use lib.Pointwise.{pointwise}
use Rattle.run_events.specs.declared.plan.Group.{Group}
use Rattle.run_events.specs.declared.plan.PlanTest.{PlanTest}
use Rattle.run_admission.specs.declared.seat.Claim.{Claim}
use Rattle.run_admission.specs.declared.seat.Seat.{Seat}
use Rattle.run_admission.specs.declared.seat.Seat.TheVariants.{Waiting, InUse, Gone}
use Rattle.run_admission.specs.declared.seat.Candidate.{Candidate}
use Rattle.run_admission.specs.declared.seat.Candidate.TheVariants.{Skip, Fits, Blocked}
use Rattle.run_admission.specs.declared.seat.Admitted.{Admitted}
use Rattle.run_admission.specs.declared.seat.Admitted.TheVariants.{Skip as Skipped, Run}

-- a sub-run: its limits, and of each test, in plan order, what it claims and where it stands
pub record Admissions : Type 0 where
  pub threads : ℕ
  pub limits : List ℕ
  pub claims : List Claim
  pub seats : List Seat

-- a test: what it claims, and where it stands
abbrev pub Test : Type 0
Test = Claim × Seat

abbrev pub tests : Admissions → List Test
tests a = zip a.claims a.seats

-- the place of a group by its name: of equal names the first counts
abbrev pub group_of : List Group → List ℕ → Option ℕ
group_of groups name = position (λ g. pointwise nat_eq g.name name) groups

-- what a test of the plan claims
abbrev pub claim_of : List Group → PlanTest → Claim
claim_of groups test = record {
  matched = is_none test.skip;
  weight = test.weight;
  priority = test.priority;
  group = option_and_then (group_of groups) test.group;
}

-- a sub-run as it begins: each test waits
abbrev pub new_admissions : ℕ → List Group → List PlanTest → Admissions
new_admissions threads groups tests = record {
  threads = threads;
  limits = map (λ g. g.limit) groups;
  claims = map (claim_of groups) tests;
  seats = replicate (length tests) Waiting;
}

-- a test waits until it is admitted, and is in use from then on until it is released
abbrev pub is_waiting : Seat → Bool
is_waiting Waiting = true
is_waiting _ = false

abbrev pub is_in_use : Seat → Bool
is_in_use (InUse global group) = true
is_in_use _ = false

-- the slots of a test in use: among all tests, and within its group
abbrev pub seat_slot : Seat → Option ℕ
seat_slot (InUse global group) = Some global
seat_slot _ = None

abbrev pub seat_group_slot : Seat → Option ℕ
seat_group_slot (InUse global group) = group
seat_group_slot _ = None

-- whether a test is of the group at this place
abbrev pub is_of : ℕ → Claim → Bool
is_of g claim = option_map_or (λ h. h == g) claim.group false

-- what a test in use takes of a limit on all tests, and of the limit of a group: its weight, cut to the limit
abbrev pub taken : ℕ → Test → ℕ
taken limit t = if is_in_use t.1 then min t.0.weight limit else 0

abbrev pub taken_in : ℕ → ℕ → Test → ℕ
taken_in g limit t = if is_of g t.0 then taken limit t else 0

-- the weight in use of all tests, and of the tests of a group
abbrev pub weight_in_use : Admissions → ℕ
weight_in_use a = sum_by (taken a.threads) (tests a)

abbrev pub group_weight_in_use : Admissions → ℕ → ℕ
group_weight_in_use a g = sum_by (taken_in g (slice_index a.limits g)) (tests a)

-- whether so much more fits within a limit, where this much is in use
abbrev pub fits_beside : ℕ → ℕ → ℕ → Bool
fits_beside used limit weight = nat_le (used + min weight limit) limit

-- whether a test fits within its group, if it has one
abbrev pub fits_its_group : Admissions → Claim → Bool
fits_its_group a claim =
    option_map_or (λ g. fits_beside (group_weight_in_use a g) (slice_index a.limits g) claim.weight) claim.group true

-- a test may come next where it waits, and is to be skipped or fits within its group
abbrev pub may_come : Admissions → Test → Bool
may_come a t = is_waiting t.1 && (not t.0.matched || fits_its_group a t.0)

-- whether a test fits within the limit on all tests
abbrev pub fits_all : Admissions → Claim → Bool
fits_all a claim = fits_beside (weight_in_use a) a.threads claim.weight

-- how a test comes next: it is skipped where it doesn't match, else it fits or is blocked
abbrev pub candidate_at : ℕ → Claim → Bool → Candidate
candidate_at test claim fits = if claim.matched then (if fits then Fits test else Blocked test) else Skip test

-- a test comes next where it may, and no test of a greater priority may
abbrev pub comes_next : Admissions → Test → Bool
comes_next a t =
    may_come a t && not (list_any (λ u. may_come a u && int_lt t.0.priority u.0.priority) (tests a))

-- the candidate is the first test, in plan order, that comes next
abbrev pub candidate : Admissions → Option Candidate
candidate a =
    option_and_then
    (λ test. option_map (λ claim. candidate_at test claim (fits_all a claim)) (slice_get a.claims test))
    (position (comes_next a) (tests a))

-- the slot that a test in use holds: among all tests, and within the group at a place
abbrev pub slot_of : Test → Option ℕ
slot_of t = seat_slot t.1

abbrev pub slot_in : ℕ → Test → Option ℕ
slot_in g t = if is_of g t.0 then seat_group_slot t.1 else None

-- whether a test holds this slot
abbrev pub holds : (Test → Option ℕ) → ℕ → Test → Bool
holds slot n t = option_map_or (λ m. m == n) (slot t) false

-- the least number from 0 that no test in use holds
abbrev pub least_free : (Test → Option ℕ) → List Test → ℕ
least_free slot ts = position_or_len (λ n. not (list_any (holds slot n) ts)) (range_with_len 0 (length ts))

-- the slots that a test gets: among all tests, and within its group, if it has one
abbrev pub free_slot : Admissions → ℕ
free_slot a = least_free slot_of (tests a)

abbrev pub free_group_slot : Admissions → Claim → Option ℕ
free_group_slot a claim = option_map (λ g. least_free (slot_in g) (tests a)) claim.group

-- a candidate is admitted, unless it is blocked
abbrev pub admitted_as : Admissions → Candidate → Option Admitted
admitted_as a (Skip test) = Some (Skipped test)
admitted_as a (Fits test) =
    Some (Run test (free_slot a) (option_and_then (free_group_slot a) (slice_get a.claims test)))
admitted_as a (Blocked test) = None

-- the test that is admitted next
abbrev pub admitted : Admissions → Option Admitted
admitted a = option_and_then (admitted_as a) (candidate a)

-- where the tests stand after an admission
abbrev pub seats_after : List Seat → Option Admitted → List Seat
seats_after seats None = seats
seats_after seats (Some (Skipped test)) = slice_set seats test Gone
seats_after seats (Some (Run test global group)) = slice_set seats test (InUse global group)

-- the sub-run after the next admission
abbrev pub after_admission : Admissions → Admissions
after_admission a = record a { seats = seats_after a.seats (admitted a) }

-- whether the test at a place is in use
abbrev pub is_test_in_use : Admissions → ℕ → Bool
is_test_in_use a test = is_in_use (slice_index_or a.seats test Gone)

-- the sub-run after a test was released
abbrev pub released : Admissions → ℕ → Admissions
released a test = record a { seats = slice_set a.seats test Gone }

-- each test was admitted
abbrev pub is_done : Admissions → Bool
is_done a = not (list_any is_waiting a.seats)
