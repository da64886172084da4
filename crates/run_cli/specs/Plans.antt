-- The settings of a plan line, and why its plan is refused.
use Rattle.std.specs.Prelude.{◌≡◌, List, [], ◌∷◌, Option, Some, option_map}
use Rattle.std.specs.BTreeSet.{insert_key}
use Rattle.run_input.specs.declared.plan_line.RunnerKeys.{RunnerKeys}
use Rattle.run_events.specs.declared.plan.Plan.{Plan}
use Rattle.run_events.specs.declared.plan.TestInstanceId.{TestInstanceId}
use Rattle.run_events.specs.declared.settings.Settings.{Settings}
use Rattle.run_model.specs.Reruns.{id_order}
use Rattle.run_engine.specs.Builder.{Builder, settings_of, refusal_of}
use Rattle.run_engine.specs.declared.errors.TestRunnerBuildError.{TestRunnerBuildError}
use Rattle.run_engine.specs.declared.errors.TestRunnerBuildError.TheVariants as build
use Rattle.run_output.specs.declared.fault.Fault.{Fault}
use Rattle.run_output.specs.declared.fault.Fault.TheVariants.{Plan as BadPlan, Memory}
use Rattle.run_output.specs.declared.fault.PlanFault.{PlanFault}
use Rattle.run_output.specs.declared.fault.PlanFault.TheVariants.{ZeroLimit, DuplicateTest, UnknownGroup, ZeroWeight}
use Rattle.run_output.specs.declared.fault.PlanFault.TheVariants.{TooManyRetries}

-- tests in ascending order, each of them once
abbrev pub ascending : List TestInstanceId → List TestInstanceId
ascending [] = []
ascending (id ∷ ids) = insert_key id_order (ascending ids) id

-- the builder that a plan line sets
abbrev pub builder_of : RunnerKeys → Builder
builder_of keys = record {
  capture = keys.capture;
  threads = keys.threads;
  max_fail = keys.max_fail;
  stress = keys.stress;
  retries = keys.retries;
  flaky_result = keys.flaky_result;
  interceptor = keys.interceptor;
  expected = option_map ascending keys.expected;
}

-- the settings of a plan with these keys, and why it is refused, where it is
abbrev pub settings_for : RunnerKeys → Plan → Settings
settings_for keys plan = settings_of (builder_of keys) plan

abbrev pub plan_refusal : RunnerKeys → Plan → Option TestRunnerBuildError
plan_refusal keys plan = refusal_of (builder_of keys) plan

-- the fault that a refusal of a plan is
abbrev pub fault_of_plan : TestRunnerBuildError → Fault
fault_of_plan (build.ZeroLimit group) = BadPlan (ZeroLimit group)
fault_of_plan (build.DuplicateTest test) = BadPlan (DuplicateTest test)
fault_of_plan (build.UnknownGroup test) = BadPlan (UnknownGroup test)
fault_of_plan (build.ZeroWeight test) = BadPlan (ZeroWeight test)
fault_of_plan (build.TooManyRetries test) = BadPlan (TooManyRetries test)
fault_of_plan build.OutOfMemory = Memory

-- why a plan is refused
abbrev pub IsPlanFault : RunnerKeys → Plan → PlanFault → Type 0
IsPlanFault keys plan fault =
    (error : TestRunnerBuildError) × (plan_refusal keys plan ≡ Some error) × (fault_of_plan error ≡ BadPlan fault)
