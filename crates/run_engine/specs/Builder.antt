-- Which plans are accepted, and the settings of a runner.
use Rattle.std.specs.Prelude.{ℕ, ◌≡◌, ◌==◌, ◌-◌, ◌^◌, nat_le, List, length, take, slice_get, position, Bool, true}
use Rattle.std.specs.Prelude.{false, ◌&&◌, nat_eq}
use Rattle.std.specs.Prelude.{if◌then◌else◌, Option, Some, None, is_none, is_some, unwrap_or, option_map}
use Rattle.std.specs.Prelude.{option_and_then, Result, Ok, Err, ⊤}
use Rattle.std.specs.Option.{option_or, option_map_or}
use Rattle.std.specs.List.{range_with_len, list_any}
use lib.Pointwise.{pointwise}
use Rattle.run_capture.specs.declared.test_output.CaptureStrategy.{CaptureStrategy}
use Rattle.run_capture.specs.declared.test_output.CaptureStrategy.TheVariants as strategies
use Rattle.run_events.specs.declared.plan.Plan.{Plan}
use Rattle.run_events.specs.declared.plan.Group.{Group}
use Rattle.run_events.specs.declared.plan.PlanTest.{PlanTest}
use Rattle.run_events.specs.declared.plan.TestInstanceId.{TestInstanceId}
use Rattle.run_events.specs.declared.settings.Settings.{Settings}
use Rattle.run_events.specs.declared.result.FlakyResult.{FlakyResult}
use Rattle.run_events.specs.declared.retry_policy.MaxFail.{MaxFail}
use Rattle.run_events.specs.declared.retry_policy.RetryPolicy.{RetryPolicy}
use Rattle.run_events.specs.declared.retry_policy.TestThreads.{TestThreads}
use Rattle.run_events.specs.declared.retry_policy.TestThreads.TheVariants.{Count}
use Rattle.run_commands.specs.declared.interceptor.Interceptor.{Interceptor}
use Rattle.run_commands.specs.declared.stress_count.StressCondition.{StressCondition}
use Rattle.run_admission.specs.InUse.{group_of}
use Rattle.run_model.specs.Reruns.{is_one_test}
use Rattle.run_model.specs.Backoff.{retry_count}
use Rattle.run_engine.specs.declared.errors.TestRunnerBuildError.{TestRunnerBuildError}
use Rattle.run_engine.specs.declared.errors.TestRunnerBuildError.TheVariants.{ZeroLimit, DuplicateTest, UnknownGroup}
use Rattle.run_engine.specs.declared.errors.TestRunnerBuildError.TheVariants.{ZeroWeight, TooManyRetries}
use Rattle.run_engine.specs.declared.errors.TestRunnerBuildError.TheVariants.{OutOfMemory}

-- what is set of a runner beside its plan; the tests that a rerun expects, in ascending order
pub record Builder : Type 0 where
  pub capture : CaptureStrategy
  pub threads : Option ℕ
  pub max_fail : MaxFail
  pub retries : Option RetryPolicy
  pub flaky_result : Option FlakyResult
  pub interceptor : Interceptor
  pub stress : Option StressCondition
  pub expected : Option (List TestInstanceId)

-- the number of threads that is set
abbrev pub count_of : TestThreads → ℕ
count_of (Count threads) = threads

-- whether output is captured
abbrev pub captures_output : CaptureStrategy → Bool
captures_output strategies.None = false
captures_output _ = true

-- how many threads a run has: those that were set, and one where none were set or no output is captured
abbrev pub threads_of : Builder → ℕ
threads_of builder = if captures_output builder.capture then unwrap_or builder.threads 1 else 1

-- the settings of a runner: what was set, and for what wasn't the usual
abbrev pub settings_of : Builder → Plan → Settings
settings_of builder plan = record {
  plan = plan;
  capture = builder.capture;
  threads = threads_of builder;
  max_fail = builder.max_fail;
  stress = builder.stress;
  interceptor = builder.interceptor;
  expected = builder.expected;
  retries = builder.retries;
  flaky_result = builder.flaky_result;
}

-- whether one of the earlier tests has the id of this one
abbrev pub is_among : List PlanTest → Option PlanTest → Bool
is_among earlier None = false
is_among earlier (Some test) = list_any (λ t. is_one_test t.id test.id) earlier

-- whether the test at this place has the id of an earlier one
abbrev pub is_repeat : List PlanTest → ℕ → Bool
is_repeat tests k = is_among (take k tests) (slice_get tests k)

-- whether a test names a group that isn't among these
abbrev pub names_no_group : List Group → PlanTest → Bool
names_no_group groups test = option_map_or (λ name. is_none (group_of groups name)) test.group false

-- whether a test has as many retries that its attempts don't fit in a u32, by these where they are set for all tests
abbrev pub has_too_many : Option RetryPolicy → PlanTest → Bool
has_too_many retries test = nat_le (2 ^ 32 - 1) (retry_count (unwrap_or retries test.retries))

-- why a test at this place is refused, where it is: it has the id of an earlier one, it names a group that the plan
-- hasn't, it has no weight, or it has too many retries
abbrev pub refusal_at : ℕ → Bool → List Group → Option RetryPolicy → PlanTest → Option TestRunnerBuildError
refusal_at k repeats groups retries test =
    if repeats then Some (DuplicateTest k) else
    (if names_no_group groups test then Some (UnknownGroup k) else
    (if test.weight == 0 then Some (ZeroWeight k) else
    (if has_too_many retries test then Some (TooManyRetries k) else None)))

-- why the test of the plan at this place is refused, where it is
abbrev pub test_refusal : List Group → Option RetryPolicy → List PlanTest → ℕ → Option TestRunnerBuildError
test_refusal groups retries tests k =
    option_and_then (refusal_at k (is_repeat tests k) groups retries) (slice_get tests k)

-- the first test that is refused
abbrev pub first_refused : List Group → Option RetryPolicy → List PlanTest → Option ℕ
first_refused groups retries tests =
    position (λ k. is_some (test_refusal groups retries tests k)) (range_with_len 0 (length tests))

-- the first limit that is 0, by the place of its group: the limit on all tests comes before those of the groups
abbrev pub zero_limit : ℕ → List Group → Option (Option ℕ)
zero_limit threads groups = if threads == 0 then Some None else option_map Some (position (λ g. g.limit == 0) groups)

-- why a plan with so many threads is refused, where it is: a limit that is 0, else the first test that is refused
abbrev pub refusal_with : ℕ → List Group → Option RetryPolicy → List PlanTest → Option TestRunnerBuildError
refusal_with threads groups retries tests =
    option_or (option_map ZeroLimit (zero_limit threads groups))
    (option_and_then (test_refusal groups retries tests) (first_refused groups retries tests))

-- why a plan is refused, where it is: the first rule that it breaks
abbrev pub refusal_of : Builder → Plan → Option TestRunnerBuildError
refusal_of builder plan = refusal_with (threads_of builder) plan.groups builder.retries plan.tests

-- what `build` answers of a plan: a runner exactly where no rule is broken
abbrev pub IsBuilt : Builder → Plan → Result Settings TestRunnerBuildError → Type 0
IsBuilt builder plan (Ok settings) = (refusal_of builder plan ≡ None) × (settings ≡ settings_of builder plan)
IsBuilt builder plan (Err OutOfMemory) = ⊤
IsBuilt builder plan (Err e) = refusal_of builder plan ≡ Some e
