-- What is kept of the limits, beside where the tests stand.
use Rattle.std.specs.Prelude.{ℕ, ◌+◌, ◌-◌, ◌≡◌, ◌<◌, ◌≤◌, ◌^◌, List, length, Bool, true, false, not, ◌&&◌, ◌||◌, Option}
use Rattle.std.specs.Prelude.{Some, None, is_none, is_some}
use Rattle.std.specs.Prelude.{slice_get, slice_set, slice_index, slice_index_or, sum, count_by, replicate, min, map}
use Rattle.std.specs.Prelude.{option_map}
use Rattle.std.specs.Prelude.{option_and_then, pos}
use Rattle.std.specs.Option.{option_map_or}
use Rattle.std.specs.List.{position_or_len, zip}
use Rattle.run_events.specs.declared.plan.Group.{Group}
use Rattle.run_admission.specs.declared.seat.Claim.{Claim}
use Rattle.run_admission.specs.declared.seat.Seat.{Seat}
use Rattle.run_admission.specs.declared.seat.Seat.TheVariants.{Gone}
use Rattle.run_admission.specs.InUse.{Admissions, Test, fits_beside, taken, taken_in, slot_of, slot_in, is_waiting}
use Rattle.run_admission.specs.InUse.{is_in_use, is_of, seat_group_slot}
use Rattle.run_admission.specs.Least.{none}

-- a test that is none, for places past the end
abbrev pub nobody : Test
nobody = (record { matched = false; weight = 0; priority = pos 0; group = None }, Gone)

-- one limit: how much of it is in use, and which test holds each slot
pub record Use : Type 0 where
  pub limit : ℕ
  pub used : ℕ
  pub holders : List (Option ℕ)

-- at the place of a free slot stands 0, and none at the place of another
abbrev pub mark_of : Option ℕ → ℕ
mark_of None = 0
mark_of (Some test) = none

pub record IsMarked (holders : List (Option ℕ)) (marks : List ℕ) : Type 0 where
  pub few : length holders < 2 ^ 32
  pub many : length marks ≡ length holders
  pub each : (n : ℕ) → n < length holders → slice_index marks n ≡ mark_of (slice_index_or holders n None)

-- the first slot that no test holds
abbrev pub free_in : Use → ℕ
free_in u = position_or_len is_none u.holders

-- a limit of which nothing is in use, with so many slots; and those of groups, each with as many slots as it has tests
abbrev pub unused : ℕ → ℕ → Use
unused slots limit = record { limit = limit; used = 0; holders = replicate slots None }

abbrev pub unused_each : List ℕ → List Group → List Use
unused_each counts groups = map (λ r. unused r.0 r.1.limit) (zip counts groups)

-- how many tests are of each of so many groups
pub record AreMembers (many : ℕ) (claims : List Claim) (counts : List ℕ) : Type 0 where
  pub all : length counts ≡ many
  pub each : (g : ℕ) → g < many → slice_index counts g ≡ count_by (is_of g) claims

-- a limit after a test took the first free slot and so much, and after one gave a slot and so much back
abbrev pub take_of : Use → ℕ → ℕ → Use
take_of u test weight = record u {
  used = u.used + min weight u.limit;
  holders = slice_set u.holders (free_in u) (Some test);
}

abbrev pub give_back : Use → ℕ → ℕ → Use
give_back u slot weight = record u {
  used = u.used - min weight u.limit;
  holders = slice_set u.holders slot None;
}

-- a test of this weight can take of a limit
pub record CanTake (u : Use) (weight : ℕ) : Type 0 where
  pub fits : u.used + min weight u.limit ≤ u.limit
  pub free : free_in u < length u.holders
  pub few : length u.holders < 2 ^ 32

-- a test in this slot can give back
pub record CanGive (u : Use) (slot weight : ℕ) : Type 0 where
  pub used : min weight u.limit ≤ u.used
  pub held : slot < length u.holders

-- the limits of the groups after a test of one took of it, and after a test of one gave back
abbrev pub take_in : List Use → Option ℕ → ℕ → ℕ → List Use
take_in us None test weight = us
take_in us (Some g) test weight = option_map_or (λ u. slice_set us g (take_of u test weight)) (slice_get us g) us

abbrev pub give_in : List Use → Option ℕ → Option ℕ → ℕ → List Use
give_in us None slot weight = us
give_in us (Some g) None weight = us
give_in us (Some g) (Some n) weight = option_map_or (λ u. slice_set us g (give_back u n weight)) (slice_get us g) us

-- whether a test may come next, by what is kept
abbrev pub fits_in : List Use → Claim → Bool
fits_in us claim =
    option_map_or
    (λ g. option_map_or (λ u. fits_beside u.used u.limit claim.weight) (slice_get us g) true)
    claim.group true

abbrev pub comes : List Use → Test → Bool
comes us t = is_waiting t.1 && (not t.0.matched || fits_in us t.0)

-- the first free slot of a test's group
abbrev pub free_within : List Use → Option ℕ → Option ℕ
free_within us group = option_and_then (λ g. option_map free_in (slice_get us g)) group

-- where an item of the first list is a place of the second, there stands the item's own place
abbrev pub Points : List (Option ℕ) → List (Option ℕ) → Type 0
Points holders slots = (n k : ℕ) → slice_index_or holders n None ≡ Some k → slice_index_or slots k None ≡ Some n

-- a limit is that of tests which take these weights, and hold these slots; there are no more slots than tests
pub record IsKept (u : Use) (weights : List ℕ) (slots : List (Option ℕ)) : Type 0 where
  pub sum : u.used ≡ sum weights
  pub within : u.used ≤ u.limit
  pub places : length u.holders ≤ length slots
  pub counted : count_by is_some u.holders ≡ count_by is_some slots
  pub held : Points u.holders slots
  pub holds : Points slots u.holders

-- the limit on all tests, and the limit of a group, are those of these tests
abbrev pub IsOfAll : Use → List Test → Type 0
IsOfAll u ts = IsKept u (map (taken u.limit) ts) (map slot_of ts)

abbrev pub IsOfGroup : ℕ → Use → List Test → Type 0
IsOfGroup g u ts = IsKept u (map (taken_in g u.limit) ts) (map (slot_in g) ts)

-- a test in use has a slot within its group exactly where it has a group
abbrev pub IsSeated : Test → Type 0
IsSeated t = is_in_use t.1 ≡ true → is_some (seat_group_slot t.1) ≡ is_some t.0.group

-- the limits are those of these tests, of which so many wait, and there are few tests; there are as many slots as
-- tests, and of a group as many as it has tests
pub record IsWhole (waiting : ℕ) (whole : Use) (parts : List Use) (claims : List Claim)
    (seats : List Seat) : Type 0 where
  pub few : length seats < 2 ^ 32
  pub paired : length claims ≡ length seats
  pub waits : waiting ≡ count_by is_waiting seats
  pub all : IsOfAll whole (zip claims seats)
  pub groups : (g : ℕ) (u : Use) → slice_get parts g ≡ Some u → IsOfGroup g u (zip claims seats)
  pub slots : length whole.holders ≡ length seats
  pub places : (g : ℕ) (u : Use) → slice_get parts g ≡ Some u → length u.holders ≡ count_by (is_of g) claims
  pub members : (k g : ℕ) → (slice_index_or claims k nobody.0).group ≡ Some g → g < length parts
  pub seated : (k : ℕ) → IsSeated (slice_index_or (zip claims seats) k nobody)

-- what contracts see of it
abbrev pub seen : Use → List Use → List Claim → List Seat → Admissions
seen whole parts claims seats = record {
  threads = whole.limit;
  limits = map (λ u. u.limit) parts;
  claims = claims;
  seats = seats;
}
