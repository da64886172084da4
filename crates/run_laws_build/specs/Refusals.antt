-- The rules that a plan is held to, and the first that it breaks.
use Rattle.std.specs.Prelude.{ℕ, ◌≡◌, ◌≢◌, ◌↔◌, ◌<◌, ◌≤◌, List, slice_get, Option, Some, None}
use Rattle.run_events.specs.declared.plan.Group.{Group}
use Rattle.run_events.specs.declared.plan.Plan.{Plan}
use Rattle.run_events.specs.declared.plan.PlanTest.{PlanTest}
use Rattle.run_events.specs.declared.retry_policy.RetryPolicy.{RetryPolicy}
use Rattle.run_model.specs.Backoff.{retry_count}
use Rattle.run_engine.specs.Builder.{Builder, refusal_of, threads_of}
use Rattle.run_engine.specs.declared.errors.TestRunnerBuildError.{TestRunnerBuildError}
use Rattle.run_engine.specs.declared.errors.TestRunnerBuildError.TheVariants.{ZeroLimit, DuplicateTest, UnknownGroup}
use Rattle.run_engine.specs.declared.errors.TestRunnerBuildError.TheVariants.{ZeroWeight, TooManyRetries}

-- a test at a place repeats an id: a test at an earlier place has it
pub record RepeatsId (tests : List PlanTest) (k : ℕ) (test : PlanTest) : Type 0 where
  pub place : ℕ
  pub earlier : place < k
  pub other : PlanTest
  pub there : slice_get tests place ≡ Some other
  pub same : other.id ≡ test.id

-- a test names a group that isn't among these
pub record NamesNoGroup (groups : List Group) (test : PlanTest) : Type 0 where
  pub name : List ℕ
  pub named : test.group ≡ Some name
  pub none : (g : ℕ) (group : Group) → slice_get groups g ≡ Some group → group.name ≢ name

-- how a test is tried again: as it says, but where that is set for all tests
abbrev pub retries_held : Option RetryPolicy → PlanTest → RetryPolicy
retries_held None test = test.retries
retries_held (Some retries) test = retries

-- a test has more retries than can be counted
abbrev pub HasTooManyRetries : Builder → PlanTest → Type 0
HasTooManyRetries builder test = 4294967295 ≤ retry_count (retries_held builder.retries test)

-- the test at a place breaks no rule
pub record BreaksNone (builder : Builder) (plan : Plan) (k : ℕ) (test : PlanTest) : Type 0 where
  pub id : RepeatsId plan.tests k test → ⊥
  pub group : NamesNoGroup plan.groups test → ⊥
  pub weight : test.weight ≢ 0
  pub retries : HasTooManyRetries builder test → ⊥

-- the test at a place breaks this rule, and none of those before it
abbrev pub BreaksFirst : Builder → Plan → ℕ → PlanTest → TestRunnerBuildError → Type 0
BreaksFirst builder plan k test (DuplicateTest n) = (n ≡ k) × RepeatsId plan.tests k test
BreaksFirst builder plan k test (UnknownGroup n) =
    (n ≡ k) × (RepeatsId plan.tests k test → ⊥) × NamesNoGroup plan.groups test
BreaksFirst builder plan k test (ZeroWeight n) =
    (n ≡ k) × (RepeatsId plan.tests k test → ⊥) × (NamesNoGroup plan.groups test → ⊥) × (test.weight ≡ 0)
BreaksFirst builder plan k test (TooManyRetries n) =
    (n ≡ k) × (RepeatsId plan.tests k test → ⊥) × (NamesNoGroup plan.groups test → ⊥) × (test.weight ≢ 0)
    × HasTooManyRetries builder test
BreaksFirst builder plan k test e = ⊥

-- a test breaks this rule first, and each test before it breaks none
pub record IsFirstToBreak (builder : Builder) (plan : Plan) (e : TestRunnerBuildError) : Type 0 where
  pub place : ℕ
  pub test : PlanTest
  pub at : slice_get plan.tests place ≡ Some test
  pub breaks : BreaksFirst builder plan place test e
  pub earlier : (k : ℕ) (other : PlanTest) → k < place → slice_get plan.tests k ≡ Some other
      → BreaksNone builder plan k other

-- no limit is 0: neither that on all tests nor that of a group
pub record HasLimits (builder : Builder) (plan : Plan) : Type 0 where
  pub threads : threads_of builder ≢ 0
  pub groups : (g : ℕ) (group : Group) → slice_get plan.groups g ≡ Some group → group.limit ≢ 0

-- the group at a place has the limit 0, and none before it has
pub record IsFirstWithout (groups : List Group) (g : ℕ) : Type 0 where
  pub group : Group
  pub at : slice_get groups g ≡ Some group
  pub limit : group.limit ≡ 0
  pub earlier : (h : ℕ) (other : Group) → h < g → slice_get groups h ≡ Some other → other.limit ≢ 0

-- a plan breaks this rule first: the limit on all tests comes first, then those of the groups, then the tests
abbrev pub IsRefusedFor : Builder → Plan → TestRunnerBuildError → Type 0
IsRefusedFor builder plan (ZeroLimit None) = threads_of builder ≡ 0
IsRefusedFor builder plan (ZeroLimit (Some g)) = (threads_of builder ≢ 0) × IsFirstWithout plan.groups g
IsRefusedFor builder plan e = HasLimits builder plan × IsFirstToBreak builder plan e

-- so each plan is refused for the rule that it breaks first, and for no other
abbrev pub RefusalsAreFirst : Type 0
RefusalsAreFirst = (builder : Builder) (plan : Plan) (e : TestRunnerBuildError)
    → (refusal_of builder plan ≡ Some e) ↔ IsRefusedFor builder plan e

-- and a plan is accepted exactly where it breaks none
abbrev pub AcceptedPlansBreakNone : Type 0
AcceptedPlansBreakNone = (builder : Builder) (plan : Plan)
    → (refusal_of builder plan ≡ None)
    ↔ (HasLimits builder plan
    × ((k : ℕ) (test : PlanTest) → slice_get plan.tests k ≡ Some test → BreaksNone builder plan k test))
