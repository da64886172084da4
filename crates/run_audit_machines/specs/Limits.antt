-- The limits and the slots of a part as a machine: after each event what the tests that run take stays within them.
use Rattle.std.specs.Prelude.{ℕ, ◌+◌, min, nat_eq, nat_le, nat_lt, ◌==◌, List, [], ◌∷◌, map, sum_by, cond, Bool, true}
use Rattle.std.specs.Prelude.{false}
use Rattle.std.specs.Prelude.{◌&&◌, ◌||◌, not, if◌then◌else◌, Option, Some, None, option_map}
use Rattle.std.specs.List.{list_all}
use lib.Pointwise.{pointwise}
use Rattle.run_events.specs.declared.plan.Group.{Group}
use Rattle.run_events.specs.declared.plan.PlanTest.{PlanTest}
use Rattle.run_events.specs.declared.plan.TestInstanceId.{TestInstanceId}
use Rattle.run_events.specs.declared.plan.TestSlotAssignment.{TestSlotAssignment}
use Rattle.run_events.specs.declared.settings.Settings.{Settings}
use Rattle.run_laws_events.specs.PlanLimits.{group_named, group_of_plan, is_of_group}
use Rattle.run_audit_model.specs.Places.{Machine}
use Rattle.run_audit_model.specs.SeenLimits.{is_seen_finish, is_seen_start, later_slot}
use Rattle.run_audit_model.specs.declared.audit_event.AuditEvent.{AuditEvent}
use Rattle.run_audit_machines.specs.Machines.{InParts, endless, guard, over_parts}

-- how often a test was told started and finished, and the slots that it was told last
pub record Seat : Type 0 where
  pub started : ℕ
  pub finished : ℕ
  pub slots : Option TestSlotAssignment

abbrev pub no_seat : Seat
no_seat = record { started = 0; finished = 0; slots = None }

abbrev pub seat_after : TestInstanceId → Seat → AuditEvent → Seat
seat_after id seat e = record {
  started = seat.started + cond (is_seen_start id e) 1 0;
  finished = seat.finished + cond (is_seen_finish id e) 1 0;
  slots = later_slot id e seat.slots;
}

-- a test of the plan, and what was told of it
abbrev pub Seated : Type 0
Seated = PlanTest × Seat

abbrev pub seated_after : AuditEvent → Seated → Seated
seated_after e s = (s.0, seat_after s.0.id s.1 e)

abbrev pub is_seated : Seated → Bool
is_seated s = nat_lt s.1.finished s.1.started

-- what it takes of a limit, and of the limit of the group of a name
abbrev pub seat_weight : ℕ → Seated → ℕ
seat_weight limit s = if is_seated s then min s.0.weight limit else 0

abbrev pub seat_group_weight : List ℕ → ℕ → Seated → ℕ
seat_group_weight name limit s = if is_of_group name s.0 then seat_weight limit s else 0

-- the group of a name keeps its limit, where it is the first of that name
abbrev pub keeps_limit : List Seated → List ℕ → Option Group → Bool
keeps_limit seats name None = true
keeps_limit seats name (Some group) = nat_le (sum_by (seat_group_weight name group.limit) seats) group.limit

-- the group of a name keeps its limit, where a name is there
abbrev pub keeps_own : List Group → List Seated → Option (List ℕ) → Bool
keeps_own groups seats None = true
keeps_own groups seats (Some name) = keeps_limit seats name (group_named name groups)

-- two tests that run have the same slot: among all, or in one group of the plan
abbrev pub is_same_number : Option ℕ → Option ℕ → Bool
is_same_number None None = true
is_same_number (Some a) (Some b) = a == b
is_same_number _ _ = false

abbrev pub is_same_group : Option (List ℕ) → Option (List ℕ) → Bool
is_same_group (Some a) (Some b) = pointwise nat_eq a b
is_same_group _ _ = false

abbrev pub share_slots : List Group → PlanTest → PlanTest → TestSlotAssignment → TestSlotAssignment → Bool
share_slots groups a b s t = (s.global == t.global)
    || (is_same_group (group_of_plan groups a.group) (group_of_plan groups b.group)
    && is_same_number (option_map (λ g. g.slot) s.group) (option_map (λ g. g.slot) t.group))

abbrev pub clash_in : List Group → PlanTest → PlanTest → Option TestSlotAssignment → Option TestSlotAssignment → Bool
clash_in groups a b (Some s) (Some t) = share_slots groups a b s t
clash_in groups a b _ _ = false

abbrev pub clash : List Group → Seated → Seated → Bool
clash groups a b = (is_seated a && is_seated b) && clash_in groups a.0 b.0 a.1.slots b.1.slots

abbrev pub are_apart : List Group → List Seated → Bool
are_apart groups [] = true
are_apart groups (s ∷ seats) = list_all (λ t. not (clash groups s t)) seats && are_apart groups seats

-- the plan's settings, with the seats of its tests
pub record SeatsNow : Type 0 where
  pub settings : Settings
  pub seats : List Seated

abbrev pub seen_seats_after : SeatsNow → AuditEvent → SeatsNow
seen_seats_after now e = record { settings = now.settings; seats = map (seated_after e) now.seats }

-- all limits are kept, and no two slots are the same
abbrev pub keeps_seats : SeatsNow → Bool
keeps_seats now = nat_le (sum_by (seat_weight now.settings.threads) now.seats) now.settings.threads
    && (list_all (λ group. keeps_limit now.seats group.name (group_named group.name now.settings.plan.groups))
    now.settings.plan.groups && are_apart now.settings.plan.groups now.seats)

abbrev pub may_seat : SeatsNow → AuditEvent → Bool
may_seat now e = keeps_seats (seen_seats_after now e)

abbrev pub limit_part : Machine SeatsNow AuditEvent
limit_part = guard seen_seats_after may_seat

abbrev pub limit_machine : Machine (InParts SeatsNow SeatsNow) AuditEvent
limit_machine = over_parts limit_part endless

-- before a part: no test was told
abbrev pub no_seats : Settings → SeatsNow
no_seats p = record { settings = p; seats = map (λ test. (test, no_seat)) p.plan.tests }
