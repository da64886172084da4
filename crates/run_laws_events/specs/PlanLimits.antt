-- The limits by the plan's own numbers: what the tests that run take of them, and the slots that they were told.
use Rattle.std.specs.Prelude.{ℕ, ◌≡◌, ◌<◌, ◌≤◌, min, nat_eq, List, take, sum_by, if◌then◌else◌, Bool, true, false}
use Rattle.std.specs.Prelude.{Option, Some, None, option_map, is_some, slice_get}
use Rattle.std.specs.Option.{option_map_or}
use Rattle.std.specs.List.{find, zip, range_with_len}
use lib.Pointwise.{pointwise}
use Rattle.run_events.specs.declared.settings.Settings.{Settings}
use Rattle.run_events.specs.declared.plan.Group.{Group}
use Rattle.run_events.specs.declared.plan.GroupSlot.{GroupSlot}
use Rattle.run_events.specs.declared.plan.PlanTest.{PlanTest}
use Rattle.run_events.specs.declared.plan.TestSlotAssignment.{TestSlotAssignment}
use Rattle.run_events.specs.declared.events.ReporterEvent.{ReporterEvent}
use Rattle.run_model.specs.declared.entry.Entry.{Entry}
use Rattle.run_model.specs.Words.{sub_run, told, is_running}
use Rattle.run_model.specs.Admission.{scripts_in, tests_in, unit_of_test}
use Rattle.run_model.specs.Journal.{IsLegal, past_of}
use Rattle.run_laws.specs.Limits.{slots_told}

-- the tests of the plan, each with the number of its unit
abbrev pub numbered : Settings → List (PlanTest × ℕ)
numbered p = zip p.plan.tests (range_with_len (scripts_in p) (tests_in p))

-- the group of this name: of equal names the first counts
abbrev pub group_named : List ℕ → List Group → Option Group
group_named name groups = find (λ group. pointwise nat_eq group.name name) groups

-- whether a test names this group
abbrev pub is_of_group : List ℕ → PlanTest → Bool
is_of_group name test = option_map_or (λ own. pointwise nat_eq own name) test.group false

-- the name of a test's group, where it names one of these
abbrev pub group_of_plan : List Group → Option (List ℕ) → Option (List ℕ)
group_of_plan groups None = None
group_of_plan groups (Some name) = if is_some (group_named name groups) then Some name else None

-- what a test takes of a limit on all tests: its weight, cut to the limit, while it is told started and not told
-- finished; and what it takes of the limit of the group of this name
abbrev pub weight_told : List ReporterEvent → ℕ → PlanTest × ℕ → ℕ
weight_told events limit t = if is_running events t.1 then min t.0.weight limit else 0

abbrev pub group_weight_told : List ReporterEvent → List ℕ → ℕ → PlanTest × ℕ → ℕ
group_weight_told events name limit t = if is_of_group name t.0 then weight_told events limit t else 0

-- the tests that run take together no more than the number of threads, and those that name a group no more than its
-- limit
pub record KeepsPlanLimits (p : Settings) (events : List ReporterEvent) : Type 0 where
  pub all : sum_by (weight_told events p.threads) (numbered p) ≤ p.threads
  pub groups : (name : List ℕ) (group : Group) → group_named name p.plan.groups ≡ Some group
      → sum_by (group_weight_told events name group.limit) (numbered p) ≤ group.limit

-- the test at a place of the plan was told started, in these slots, and not told finished
pub record IsRunningIn (p : Settings) (events : List ReporterEvent) (j : ℕ) (test : PlanTest)
    (slots : TestSlotAssignment) : Type 0 where
  pub planned : slice_get p.plan.tests j ≡ Some test
  pub running : is_running events (unit_of_test p j) ≡ true
  pub told : slots_told (unit_of_test p j) events ≡ Some slots

-- each test that runs was told its slots, one of its group exactly where it names one of the plan; and no two have
-- the same slot among all tests, nor the same one of a group
pub record HasPlanSlots (p : Settings) (events : List ReporterEvent) : Type 0 where
  pub told : (j : ℕ) → j < tests_in p → is_running events (unit_of_test p j) ≡ true
      → is_some (slots_told (unit_of_test p j) events) ≡ true
  pub group : (j : ℕ) (test : PlanTest) (slots : TestSlotAssignment) → IsRunningIn p events j test slots
      → option_map (λ g. g.name) slots.group ≡ group_of_plan p.plan.groups test.group
  pub own : (i j : ℕ) (a b : PlanTest) (s t : TestSlotAssignment)
      → IsRunningIn p events i a s → IsRunningIn p events j b t → s.global ≡ t.global → i ≡ j
  pub group_own : (i j : ℕ) (a b : PlanTest) (s t : TestSlotAssignment) (g : GroupSlot)
      → IsRunningIn p events i a s → IsRunningIn p events j b t → s.group ≡ Some g → t.group ≡ Some g → i ≡ j

-- after each event that is told in the newest sub-run of a legal journal the tests that run keep the plan's limits,
-- and have slots of their own
abbrev pub LimitsAreOfPlan : Type 0
LimitsAreOfPlan = (p : Settings) (journal : List Entry) (n : ℕ) → IsLegal p journal
    → KeepsPlanLimits p (take n (told (sub_run (past_of p journal))))
    × HasPlanSlots p (take n (told (sub_run (past_of p journal))))
