-- The limits of the plan and the slots, by what events tell.
use Rattle.std.specs.Prelude.{ℕ, ◌≡◌, ◌≤◌, min, nat_lt, List, [], ◌∷◌, take, sum_by, count_by, if◌then◌else◌, Bool}
use Rattle.std.specs.Prelude.{true, false, Option, Some, None, option_map, slice_get}
use Rattle.run_events.specs.declared.plan.Group.{Group}
use Rattle.run_events.specs.declared.plan.PlanTest.{PlanTest}
use Rattle.run_events.specs.declared.plan.TestInstanceId.{TestInstanceId}
use Rattle.run_events.specs.declared.plan.TestSlotAssignment.{TestSlotAssignment}
use Rattle.run_events.specs.declared.settings.Settings.{Settings}
use Rattle.run_laws_events.specs.PlanLimits.{group_named, group_of_plan, is_of_group}
use Rattle.run_model.specs.Reruns.{is_one_test}
use Rattle.run_audit_model.specs.declared.audit_event.AuditEvent.{AuditEvent}
use Rattle.run_audit_model.specs.declared.audit_event.AuditEvent.TheVariants as seen

-- whether an event tells that a test started, and that it finished
abbrev pub is_seen_start : TestInstanceId → AuditEvent → Bool
is_seen_start test (seen.TestStarted own slot) = is_one_test own test
is_seen_start test _ = false

abbrev pub is_seen_finish : TestInstanceId → AuditEvent → Bool
is_seen_finish test (seen.Finished own statuses) = is_one_test own test
is_seen_finish test _ = false

-- whether a test was told started more often than finished
abbrev pub is_seen_running : TestInstanceId → List AuditEvent → Bool
is_seen_running test events =
    nat_lt (count_by (is_seen_finish test) events) (count_by (is_seen_start test) events)

-- what a test takes of a limit: its weight, cut to the limit, while it runs
abbrev pub seen_weight : List AuditEvent → ℕ → PlanTest → ℕ
seen_weight events limit test = if is_seen_running test.id events then min test.weight limit else 0

abbrev pub seen_group_weight : List AuditEvent → List ℕ → ℕ → PlanTest → ℕ
seen_group_weight events name limit test = if is_of_group name test then seen_weight events limit test else 0

-- the tests that run take together no more than the number of threads, and those that name a group no more than its
-- limit
pub record KeepsSeenLimits (p : Settings) (events : List AuditEvent) : Type 0 where
  pub all : sum_by (seen_weight events p.threads) p.plan.tests ≤ p.threads
  pub groups : (name : List ℕ) (group : Group) → group_named name p.plan.groups ≡ Some group
      → sum_by (seen_group_weight events name group.limit) p.plan.tests ≤ group.limit

-- the slots with which a test was told started last
abbrev pub later_slot : TestInstanceId → AuditEvent → Option TestSlotAssignment → Option TestSlotAssignment
later_slot test (seen.TestStarted own slot) before = if is_one_test own test then Some slot else before
later_slot test _ before = before

abbrev pub seen_slots_from : TestInstanceId → Option TestSlotAssignment → List AuditEvent → Option TestSlotAssignment
seen_slots_from test before [] = before
seen_slots_from test before (e ∷ es) = seen_slots_from test (later_slot test e before) es

-- the test at a place of the plan runs in these slots
pub record RunsIn (p : Settings) (events : List AuditEvent) (j : ℕ) (test : PlanTest) (slots : TestSlotAssignment)
    : Type 0 where
  pub planned : slice_get p.plan.tests j ≡ Some test
  pub running : is_seen_running test.id events ≡ true
  pub told : seen_slots_from test.id None events ≡ Some slots

-- two tests that run differ in their slots among all tests, and two of one group in those of the group
pub record SlotsDiffer (p : Settings) (events : List AuditEvent) : Type 0 where
  pub all : (i j : ℕ) (a b : PlanTest) (s t : TestSlotAssignment) → RunsIn p events i a s → RunsIn p events j b t
      → s.global ≡ t.global → i ≡ j
  pub groups : (i j : ℕ) (a b : PlanTest) (s t : TestSlotAssignment) (name : List ℕ) → RunsIn p events i a s
      → RunsIn p events j b t → group_of_plan p.plan.groups a.group ≡ Some name
      → group_of_plan p.plan.groups b.group ≡ Some name
      → option_map (λ g. g.slot) s.group ≡ option_map (λ g. g.slot) t.group → i ≡ j

-- that holds after each event of a part
abbrev pub KeepsTold : Settings → List AuditEvent → Type 0
KeepsTold p part = (n : ℕ) → KeepsSeenLimits p (take n part) × SlotsDiffer p (take n part)
