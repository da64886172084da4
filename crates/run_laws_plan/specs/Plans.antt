-- What each plan of a project has: the listed tests, reasons for those that are skipped, and one part for each other.
use Rattle.std.specs.Prelude.{ℕ, ◌≡◌, ◌≢◌, ◌<◌, ◌≤◌, ◌++◌, not, Bool, true, false, List, [], ◌∷◌, codes, map, slice_get}
use Rattle.std.specs.Prelude.{Option, Some, None, is_some, unwrap_or}
use Rattle.run_events.specs.declared.plan.PlanTest.{PlanTest}
use Rattle.run_filter.specs.declared.partition.PartitionKind.{PartitionKind}
use Rattle.run_profile.specs.declared.levels.Project.{Project}
use Rattle.run_profile.specs.declared.scripts.SetupScript.{SetupScript}
use Rattle.run_plan_line.specs.declared.said.SaidPlan.{SaidPlan}
use Rattle.run_plan.specs.Calls.{IsPlan}
use Rattle.run_plan.specs.Listed.{AskedTest, listed}
use Rattle.run_plan.specs.Planned.{kept_tests, planned, test_id}
use Rattle.run_plan.specs.Reasons.{filter_reasons, reason_of_filters}
use Rattle.run_plan.specs.declared.asked.Call.{Call}
use Rattle.run_plan.specs.declared.choices.Choices.{Choices}
use Rattle.run_plan.specs.declared.choices.Picks.{Picks}
use Rattle.run_plan.specs.declared.test_list.TestList.{TestList}

-- a plan has each listed test once, in the list's order
abbrev pub PlansHaveListedTests : Type 0
PlansHaveListedTests =
    (config : Option (List ℕ)) (list : TestList) (project : Project) (choices : Choices) (call : Call) (plan : SaidPlan)
    → IsPlan config list project choices call plan
    → map (λ (t : PlanTest). t.id) plan.tests ≡ map test_id (listed list)

-- the test at a place of a plan is skipped so, or isn't
pub record IsSkippedAs (plan : SaidPlan) (place : ℕ) (skip : Option (List ℕ)) : Type 0 where
  pub test : PlanTest
  pub there : slice_get plan.tests place ≡ Some test
  pub so : test.skip ≡ skip

-- why a test may be skipped, each with whether that holds: the list's own reason, those of filters and words, and that
-- it stands in another part
abbrev pub skip_reasons : Picks → AskedTest → Bool → List (Bool × List ℕ)
skip_reasons picks row is_in =
    (is_some row.0.2.left_out, unwrap_or row.0.2.left_out [])
    ∷ filter_reasons picks row.0.2 row.1 ++ (not is_in, codes "partition") ∷ []

-- a reason holds at some place, and none before it; or none holds
abbrev pub IsFirstReason : List (Bool × List ℕ) → Option (List ℕ) → Type 0
IsFirstReason reasons None = (k : ℕ) (holds : Bool) (text : List ℕ) → slice_get reasons k ≡ Some (holds, text)
    → holds ≡ false
IsFirstReason reasons (Some reason) = (place : ℕ) × (slice_get reasons place ≡ Some (true, reason))
    × ((k : ℕ) (holds : Bool) (text : List ℕ) → k < place → slice_get reasons k ≡ Some (holds, text) → holds ≡ false)

-- each test is skipped for the first reason that holds of it, and isn't where none does
abbrev pub SkipsHaveFirstReasons : Type 0
SkipsHaveFirstReasons =
    (list : TestList) (project : Project) (choices : Choices) (call : Call) (rows : List AskedTest)
    (used : List SetupScript) (place : ℕ) (row : AskedTest) (is_in : Bool)
    → slice_get rows place ≡ Some row
    → slice_get (kept_tests choices.picks.partition choices.picks rows) place ≡ Some is_in
    → (skip : Option (List ℕ)) × IsSkippedAs (planned list project choices call rows used) place skip
    × IsFirstReason (skip_reasons choices.picks row is_in) skip

-- the same words with a part of a partition
abbrev pub by_part : Choices → PartitionKind → ℕ → ℕ → Choices
by_part choices kind part parts =
    record choices { picks = record choices.picks { partition = Some (kind, part, parts) } }

-- of a test that nothing else leaves out: one part has it, and each other skips it
abbrev pub HasOnePart : ℕ → (ℕ → SaidPlan) → ℕ → Type 0
HasOnePart parts plan place = (part : ℕ) × (1 ≤ part) × (part ≤ parts) × IsSkippedAs (plan part) place None
    × ((other : ℕ) → other ≢ part → IsSkippedAs (plan other) place (Some (codes "partition")))

-- the parts of a partition share the tests that nothing else leaves out; each other is skipped in all for its reason
pub record PartsSharePlans : Type 0 where
  pub shared : (list : TestList) (project : Project) (choices : Choices) (call : Call) (rows : List AskedTest)
      (used : ℕ → List SetupScript) (kind : PartitionKind) (parts place : ℕ) (row : AskedTest) → 0 < parts
      → slice_get rows place ≡ Some row → reason_of_filters choices.picks row ≡ None
      → HasOnePart parts (λ part. planned list project (by_part choices kind part parts) call rows (used part)) place
  pub left_out : (list : TestList) (project : Project) (choices : Choices) (call : Call) (rows : List AskedTest)
      (used : List SetupScript) (kind : PartitionKind) (part parts place : ℕ) (row : AskedTest) (reason : List ℕ)
      → slice_get rows place ≡ Some row → reason_of_filters choices.picks row ≡ Some reason
      → IsSkippedAs (planned list project (by_part choices kind part parts) call rows used) place (Some reason)
