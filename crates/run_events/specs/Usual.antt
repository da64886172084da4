-- What a plan is where it says nothing else.
use Rattle.std.specs.Prelude.{ℕ, pos, List, [], Option, None, false, codes}
use Rattle.run_commands.specs.Versions.{Versions}
use Rattle.run_commands.specs.TargetRunner.{no_runners}
use Rattle.run_commands.specs.declared.target_runner.BuildPlatform.TheVariants.{Target}
use Rattle.run_events.specs.declared.plan.Plan.{Plan}
use Rattle.run_events.specs.declared.plan.PlanTest.{PlanTest}
use Rattle.run_events.specs.declared.plan.RunHead.{RunHead}
use Rattle.run_events.specs.declared.plan.Hearing.{Hearing}
use Rattle.run_events.specs.declared.plan.SlowTimeout.{SlowTimeout}
use Rattle.run_events.specs.declared.plan.LeakTimeout.{LeakTimeout}
use Rattle.run_events.specs.declared.plan.TestInstanceId.{TestInstanceId}
use Rattle.run_events.specs.declared.retry_policy.RetryPolicy.{RetryPolicy}
use Rattle.run_events.specs.declared.retry_policy.RetryPolicy.TheVariants.{Fixed}
use Rattle.run_events.specs.declared.retry_policy.RunMode.TheVariants.{Test}
use Rattle.run_events.specs.declared.result.FlakyResult.TheVariants as flaky
use Rattle.run_events.specs.declared.result.LeakTimeoutResult.TheVariants as leaks
use Rattle.run_events.specs.declared.result.SlowTimeoutResult.TheVariants as timeouts
use Rattle.run_events.specs.declared.signal.SignalHandlerKind.TheVariants as signals
use Rattle.run_events.specs.declared.input.InputHandlerKind.TheVariants as inputs

-- a test is slow after a minute, is never ended for it, and would be given ten seconds
abbrev pub usual_slow : SlowTimeout
usual_slow = record { period = 60000000000; terminate_after = None; grace = 10000000000; on_timeout = timeouts.Fail }

-- open descriptors are waited for during 200 ms, and a leak passes
abbrev pub usual_leak : LeakTimeout
usual_leak = record { period = 200000000; result = leaks.Pass }

-- no attempt is repeated
abbrev pub no_retries : RetryPolicy
no_retries = Fixed 0 0 false

-- a test of weight 1 and priority 0, in no group, with no retries and no scripts, for the target platform
abbrev pub usual_test : TestInstanceId → List (List ℕ) → Option (List ℕ) → PlanTest
usual_test id command skip = record {
  id = id;
  command = command;
  skip = skip;
  weight = 1;
  priority = pos 0;
  group = None;
  retries = no_retries;
  flaky = flaky.Pass;
  slow = usual_slow;
  leak = usual_leak;
  scripts = [];
  platform = Target;
}

-- version 0.0.0, and none that the project asks for
abbrev pub usual_versions : Versions
usual_versions = record { current = (0, 0, 0, [], []); required = None; recommended = None }

abbrev pub usual_head : List ℕ → RunHead
usual_head run_id = record {
  run_id = run_id;
  started_at = None;
  profile = codes "default";
  workspace_root = codes "/";
  args = [];
  mode = Test;
  versions = usual_versions;
}

-- all signals and keys are heard, and a quit shuts the run down
abbrev pub usual_hearing : Hearing
usual_hearing = record { signals = signals.Standard; input = inputs.Standard; quit_is_info = false }

-- a plan of tests alone
abbrev pub usual_plan : List ℕ → List PlanTest → Plan
usual_plan run_id tests = record {
  head = usual_head run_id;
  hearing = usual_hearing;
  global_timeout = None;
  groups = [];
  runners = no_runners;
  scripts = [];
  tests = tests;
}
