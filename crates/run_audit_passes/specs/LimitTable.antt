-- What is kept of the tests of a part, to tell by look-ups whether their limits and slots allow an event.
use Rattle.std.specs.Prelude.{ℕ, suc, ◌+◌, ◌≡◌, List, [], ◌∷◌, map, set, sum_by, slice_get, nat_eq, nat_le}
use Rattle.std.specs.Prelude.{Bool, true, false, ◌&&◌, not, cond, if◌then◌else◌, nat_lt, Option, Some, None}
use Rattle.std.specs.Prelude.{option_map, unwrap_or}
use Rattle.std.specs.List.{list_any}
use Rattle.std.specs.Option.{option_cmp, option_map_or}
use Rattle.std.specs.Ordering.{nat_cmp, ordering_then}
use Rattle.std.specs.Cmp.Lexicographic.{slice_cmp}
use Rattle.std.specs.declared.cmp.Ordering.{Ordering}
use Rattle.std.specs.BTreeMap.{BTreeMap, get, is_at}
use Rattle.std.specs.BTreeSet.{contains}
use Rattle.run_events.specs.declared.plan.Group.{Group}
use Rattle.run_events.specs.declared.plan.PlanTest.{PlanTest}
use Rattle.run_events.specs.declared.plan.TestInstanceId.{TestInstanceId}
use Rattle.run_events.specs.declared.plan.TestSlotAssignment.{TestSlotAssignment}
use Rattle.run_events.specs.declared.settings.Settings.{Settings}
use Rattle.run_laws_events.specs.PlanLimits.{group_named}
use Rattle.run_audit_machines.specs.Holders.{group_slot_told, is_key, is_slot_free, own_group_slot, same_slot}
use Rattle.run_audit_machines.specs.Holders.{slot_told}
use Rattle.run_audit_machines.specs.Limits.{Seat, Seated, SeatsNow, keeps_own, keeps_seats, no_seat}
use Rattle.run_audit_machines.specs.Limits.{no_seats}
use Rattle.run_audit_machines.specs.Limits.{seat_group_weight, seat_weight}
use Rattle.run_audit_passes.specs.declared.limit_table.LimitTable.{LimitTable}
use Rattle.run_audit_passes.specs.declared.seat_told.SeatTold.{SeatTold}
use Rattle.run_audit_passes.specs.declared.taken.AllTaken.{AllTaken}
use Rattle.run_audit_passes.specs.declared.taken.GroupsTaken.{GroupsTaken}

-- what was told of a test, and what it is once it was told started in some slots, or finished
abbrev pub told_seat : SeatTold → Seat
told_seat told = record { started = told.started; finished = told.finished; slots = told.slots }

abbrev pub seat_started : Seat → TestSlotAssignment → Seat
seat_started seat slots = record { started = seat.started + 1; finished = seat.finished; slots = Some slots }

abbrev pub seat_finished : Seat → Seat
seat_finished seat = record { started = seat.started; finished = seat.finished + 1; slots = seat.slots }

-- what was told of the test at a place: nothing where nothing is kept
abbrev pub seat_at : (ℕ → Option SeatTold) → ℕ → Seat
seat_at told place = option_map_or told_seat (told place) no_seat

-- the tests from a place on, each with that
abbrev pub seats_from : (ℕ → Option SeatTold) → ℕ → List PlanTest → List Seated
seats_from told place [] = []
seats_from told place (test ∷ tests) = (test, seat_at told place) ∷ seats_from told (suc place) tests

abbrev pub seats_now : Settings → BTreeMap ℕ SeatTold → SeatsNow
seats_now p told = record { settings = p; seats = seats_from (get nat_cmp told) 0 p.plan.tests }

-- ---- slots that are held

-- this is the slot
abbrev pub is_it : {K : Type 0} → (K → K → Ordering) → Option K → K → Bool
is_it cmp None k = false
is_it cmp (Some own) k = is_at (cmp own) k

-- a slot is held once one was given back; and once another was taken
abbrev pub left_held : {K : Type 0} → (K → K → Ordering) → (K → Bool) → Option K → K → Bool
left_held cmp held old k = cond (is_it cmp old k) false (held k)

abbrev pub held_after : {K : Type 0} → (K → K → Ordering) → (K → Bool) → Option K → Option K → K → Bool
held_after cmp held old new k = cond (is_it cmp new k) true (left_held cmp held old k)

-- the one that is to be taken isn't held, once the other was given back
abbrev pub is_free_beside : {K : Type 0} → (K → K → Ordering) → (K → Bool) → Option K → Option K → Bool
is_free_beside cmp held old new = option_map_or (λ k. not (left_held cmp held old k)) new true

-- just the slots of some items are held
abbrev pub IsHeld : {S K : Type 0} → (K → K → Bool) → (S → Option K) → (K → Bool) → List S → Type 0
IsHeld {S} {K} same key held items = (k : K) → held k ≡ list_any (is_key same key (Some k)) items

-- an item stands at a place, and no other has its slot
pub record StandsAlone {S K : Type 0} (same : K → K → Bool) (key : S → Option K) (items : List S) (place : ℕ) (item : S)
    : Type 0 where
  pub there : slice_get items place ≡ Some item
  pub free : is_slot_free same key (key item) place items ≡ true

-- ---- what is taken

-- of the limit on all tests
pub record TakesAll (threads : ℕ) (taken : AllTaken) (seats : List Seated) : Type 0 where
  pub sum_is : taken.sum ≡ sum_by (seat_weight threads) seats
  pub held_are : IsHeld nat_eq slot_told (contains nat_cmp taken.slots) seats

-- of the limits of groups, by their names
abbrev pub sum_in : BTreeMap (List ℕ) ℕ → List ℕ → ℕ
sum_in sums name = unwrap_or (get (slice_cmp nat_cmp) sums name) 0

abbrev pub group_slot_order : List ℕ × Option ℕ → List ℕ × Option ℕ → Ordering
group_slot_order a b = ordering_then (slice_cmp nat_cmp a.0 b.0) (option_cmp nat_cmp a.1 b.1)

-- the slot of a test that runs in the group of a name
abbrev pub slot_in_group : List ℕ → Seat → Option (List ℕ × Option ℕ)
slot_in_group name seat =
    if nat_lt seat.finished seat.started then group_slot_told (Some name) seat.slots else None

pub record TakesGroups (groups : List Group) (taken : GroupsTaken) (seats : List Seated) : Type 0 where
  pub sums_are : (name : List ℕ) (group : Group) → group_named name groups ≡ Some group
      → sum_in taken.sums name ≡ sum_by (seat_group_weight name group.limit) seats
  pub held_are : IsHeld same_slot (own_group_slot groups) (contains group_slot_order taken.slots) seats

-- the limits of groups, by their names
abbrev pub AreLimits : List Group → BTreeMap (List ℕ) ℕ → Type 0
AreLimits groups limits = (name : List ℕ)
    → get (slice_cmp nat_cmp) limits name ≡ option_map (λ g. g.limit) (group_named name groups)

-- what a seat that changes makes of what is taken, and whether the limit is kept, and the slot no other's
pub record ChangesAll (threads : ℕ) (after : AllTaken) (new : Seated) (kept : Bool) (seats : List Seated) (place : ℕ)
    : Type 0 where
  pub taken : TakesAll threads after (set seats place new)
  pub right : kept ≡ (is_slot_free nat_eq slot_told (slot_told new) place seats
      && nat_le (sum_by (seat_weight threads) (set seats place new)) threads)

pub record ChangesGroups (groups : List Group) (after : GroupsTaken) (new : Seated) (kept : Bool) (seats : List Seated)
    (place : ℕ) : Type 0 where
  pub taken : TakesGroups groups after (set seats place new)
  pub right : kept ≡ (is_slot_free same_slot (own_group_slot groups) (own_group_slot groups new) place seats
      && keeps_own groups (set seats place new) new.0.group)

-- ---- all of it

-- what is taken is what the tests take, and they keep the plan's limits
pub record IsTable (p : Settings) (table : LimitTable) : Type 0 where
  pub all : TakesAll p.threads table.all (seats_now p table.told).seats
  pub groups : TakesGroups p.plan.groups table.groups (seats_now p table.told).seats
  pub kept : keeps_seats (seats_now p table.told) ≡ true

-- the seats with one of them set
abbrev pub seat_set : SeatsNow → ℕ → Seated → SeatsNow
seat_set now place new = record { settings = now.settings; seats = set now.seats place new }

-- what a seat that is to change makes of what is taken, while the seats are those of before
pub record TakesSeat (p : Settings) (before after : LimitTable) (place : ℕ) (new : Seated) (kept : Bool) : Type 0 where
  pub all : TakesAll p.threads after.all (seat_set (seats_now p before.told) place new).seats
  pub groups : TakesGroups p.plan.groups after.groups (seat_set (seats_now p before.told) place new).seats
  pub right : kept ≡ keeps_seats (seat_set (seats_now p before.told) place new)
  pub told : after.told ≡ before.told

-- what a seat that changes makes of the table, and whether all limits are kept
pub record ChangesTable (p : Settings) (before after : LimitTable) (place : ℕ) (new : Seated) (kept : Bool)
    : Type 0 where
  pub right : kept ≡ keeps_seats (seat_set (seats_now p before.told) place new)
  pub table : kept ≡ true → IsTable p after
  pub seats : seats_now p after.told ≡ seat_set (seats_now p before.told) place new

-- before a part: no test was told
abbrev pub IsFirstTable : LimitTable → Type 0
IsFirstTable table = (p : Settings) → IsTable p table × (seats_now p table.told ≡ no_seats p)

-- the places are those of the tests, the limits those of the groups, and the table is right while all was taken
pub record IsLimitPart (p : Settings) (places : List TestInstanceId) (limits : BTreeMap (List ℕ) ℕ) (broken : Bool)
    (table : LimitTable) : Type 0 where
  pub placed : places ≡ map (λ test. test.id) p.plan.tests
  pub limited : AreLimits p.plan.groups limits
  pub whole : broken ≡ false → IsTable p table

-- a seat is set, and whether all limits are kept
abbrev pub ChangesSeats : SeatsNow → SeatsNow → ℕ → Seat → Bool → Type 0
ChangesSeats before after place new kept = (s : Seated) → slice_get before.seats place ≡ Some s
    → (kept ≡ keeps_seats (seat_set before place (s.0, new)))
    × (kept ≡ true → after ≡ seat_set before place (s.0, new))
