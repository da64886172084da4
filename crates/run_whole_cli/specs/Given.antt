-- What a line gives to run.
use Rattle.std.specs.Prelude.{ℕ, ◌≡◌, ◌⊎◌, ◌≤◌, ◌<◌, List, length, Some, None, Result, Ok, Err, ⊤}
use Rattle.run_input.specs.declared.plan_line.RunnerKeys.{RunnerKeys}
use Rattle.run_input.specs.Input.{plan_line_of}
use Rattle.run_events.specs.declared.plan.Plan.{Plan}
use Rattle.run_events.specs.declared.settings.Settings.{Settings}
use Rattle.run_engine.specs.declared.errors.TestRunnerBuildError.{TestRunnerBuildError}
use Rattle.run_output.specs.declared.fault.Fault.{Fault}
use Rattle.run_output.specs.declared.fault.Fault.TheVariants.{Line, Plan as BadPlan, Memory, TooLong}
use Rattle.run_output.specs.declared.fault.PlanFault.{PlanFault}
use Rattle.run_cli.specs.Given.{input_limit}
use Rattle.run_cli.specs.Plans.{settings_for, plan_refusal, fault_of_plan}

-- the line is no longer than an input may be, and says this plan
pub record SaysPlan (line : List ℕ) (keys : RunnerKeys) (plan : Plan) : Type 0 where
  pub within : length line ≤ input_limit
  pub says : plan_line_of line ≡ Some (keys, plan)

-- it says a plan that is accepted
pub record HasPlan (line : List ℕ) : Type 0 where
  pub keys : RunnerKeys
  pub plan : Plan
  pub said : SaysPlan line keys plan
  pub accepted : plan_refusal keys plan ≡ None

-- it says a plan that is refused
pub record RefusesPlan (line : List ℕ) (fault : PlanFault) : Type 0 where
  pub keys : RunnerKeys
  pub plan : Plan
  pub said : SaysPlan line keys plan
  pub error : TestRunnerBuildError
  pub refused : plan_refusal keys plan ≡ Some error
  pub says : fault_of_plan error ≡ BadPlan fault

-- it is no longer than an input may be, and no plan line
pub record HasNoPlan (line : List ℕ) : Type 0 where
  pub within : length line ≤ input_limit
  pub bad : plan_line_of line ≡ None

-- why nothing is run by a line
abbrev pub IsUnrunnable : List ℕ → Fault → Type 0
IsUnrunnable line (Line number) = (number ≡ 1) × HasNoPlan line
IsUnrunnable line (BadPlan fault) = RefusesPlan line fault
IsUnrunnable line TooLong = input_limit < length line
IsUnrunnable line Memory = ⊤
IsUnrunnable line _ = ⊥

-- a line is run by these settings
abbrev pub GivesRunner : List ℕ → Settings → Type 0
GivesRunner line p = (x : HasPlan line) × (p ≡ settings_for x.keys x.plan)

-- what a plan with these keys gives to run
abbrev pub BuildsFor : RunnerKeys → Plan → Result Settings Fault → Type 0
BuildsFor keys plan (Ok p) = (plan_refusal keys plan ≡ None) × (p ≡ settings_for keys plan)
BuildsFor keys plan (Err fault) = (fault ≡ Memory)
    ⊎ ((error : TestRunnerBuildError) × (plan_refusal keys plan ≡ Some error) × (fault_of_plan error ≡ fault))
