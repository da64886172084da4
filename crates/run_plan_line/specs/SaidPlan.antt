-- What the line of a plan says.
use Rattle.std.specs.Int.NonZero.{non_zero_u32_get}
use Rattle.std.specs.Prelude.{ℕ, ◌<◌, ◌^◌, ⊤, IfSome, ℤ, pos, negsuc, int_le, ◌≡◌, ◌&&◌, Bool, true, Some, None, []}
use Rattle.run_commands.specs.TargetRunner.{no_runners}
use Rattle.run_commands.specs.declared.interceptor.Interceptor.TheVariants as under
use Rattle.run_commands.specs.declared.stress_count.StressCondition.{StressCondition}
use Rattle.run_commands.specs.declared.stress_count.StressCondition.TheVariants as conditions
use Rattle.run_commands.specs.declared.stress_count.StressCount.TheVariants as counts
use Rattle.run_events.specs.Usual.{usual_hearing, usual_versions}
use Rattle.run_events.specs.declared.plan.Group.{Group}
use Rattle.run_events.specs.declared.plan.Plan.{Plan}
use Rattle.run_events.specs.declared.plan.PlanScript.{PlanScript}
use Rattle.run_events.specs.declared.plan.PlanTest.{PlanTest}
use Rattle.run_events.specs.declared.retry_policy.RunMode.TheVariants.{Test}
use Rattle.run_events.specs.declared.retry_policy.MaxFail.{MaxFail}
use Rattle.run_events.specs.declared.retry_policy.MaxFail.TheVariants as limits
use Rattle.run_events.specs.declared.retry_policy.RetryPolicy.{RetryPolicy}
use Rattle.run_events.specs.declared.retry_policy.RetryPolicy.TheVariants.{Fixed, Exponential}
use Rattle.run_input.specs.PlanLine.{group_from}
use Rattle.run_input.specs.PlanScripts.{script_of}
use Rattle.run_input.specs.PlanTest.{test_from}
use Rattle.run_input.specs.declared.plan_line.RunnerKeys.{RunnerKeys}
use Rattle.run_plan_line.specs.PlanFields.{group_object, plan_test_object, script_object}
use Rattle.run_plan_line.specs.declared.said.SaidPlan.{SaidPlan}

-- what it sets of a runner: there is no debugger, and no test is expected
abbrev pub said_keys : SaidPlan → RunnerKeys
said_keys plan = record {
  capture = plan.capture;
  threads = Some plan.threads;
  max_fail = plan.max_fail;
  stress = plan.stress;
  retries = plan.retries;
  flaky_result = plan.flaky_result;
  interceptor = under.None;
  expected = None;
}

-- its plan, of version 0.9.129: all signals and keys are heard, and tests have no runners
abbrev pub said_plan : SaidPlan → Plan
said_plan plan = record {
  head = record {
    run_id = plan.run_id;
    started_at = None;
    profile = plan.profile;
    workspace_root = plan.workspace_root;
    args = plan.args;
    mode = Test;
    versions = record usual_versions { current = (0, 9, 129, [], []) };
  };
  hearing = usual_hearing;
  global_timeout = plan.global_timeout;
  groups = plan.groups;
  runners = no_runners;
  scripts = plan.scripts;
  tests = plan.tests;
}

-- a priority is from -100 to 100
abbrev pub is_rank : ℤ → Bool
is_rank z = int_le (negsuc 99) z && int_le z (pos 100)

abbrev pub HasRank : PlanTest → Type 0
HasRank test = is_rank test.priority ≡ true

-- what is written is read as it was
abbrev pub IsReadTest : PlanTest → Type 0
IsReadTest test = HasRank test → test_from 2 (plan_test_object test) ≡ Some test

abbrev pub IsReadGroup : Group → Type 0
IsReadGroup group = group_from (group_object group) ≡ Some group

abbrev pub IsReadScript : PlanScript → Type 0
IsReadScript script = script_of (script_object script) ≡ Some script

-- how often a test is tried again, and after how many failures no test starts any more
abbrev pub tries : RetryPolicy → ℕ
tries (Fixed n delay jitter) = n
tries (Exponential n delay jitter max_delay) = n

abbrev pub most_failures : MaxFail → ℕ
most_failures limits.All = 0
most_failures (limits.Count n mode) = n

-- a number of sub-runs is of 32 bits
abbrev pub repeats_fit : StressCondition → Type 0
repeats_fit (conditions.Count (counts.Count n)) = non_zero_u32_get n < 2 ^ 32
repeats_fit (conditions.Count counts.Infinite) = ⊤
repeats_fit (conditions.Duration ns) = ⊤

-- the numbers of a plan are of 32 bits
pub record FitsWays (plan : SaidPlan) : Type 0 where
  pub threads : plan.threads < 2 ^ 32
  pub max_fail : most_failures plan.max_fail < 2 ^ 32
  pub retries : IfSome plan.retries (λ r. tries r < 2 ^ 32)
  pub repeats : IfSome plan.stress repeats_fit
