-- What the run of a plan line says: its ends, and what status each cause gives.
use Rattle.std.specs.Prelude.{ℕ, ◌≡◌, ◌⊎◌, ◌<◌, List, length, Option, Some, None}
use Rattle.run_input.specs.declared.plan_line.RunnerKeys.{RunnerKeys}
use Rattle.run_events.specs.declared.plan.Plan.{Plan}
use Rattle.run_engine.specs.declared.errors.TestRunnerBuildError.{TestRunnerBuildError}
use Rattle.run_output.specs.declared.fault.Fault.TheVariants.{Words, Line, Plan as BadPlan, NotEnabled, ThirdSignal}
use Rattle.run_output.specs.declared.fault.Fault.TheVariants.{Unfinished, Report, Read, Memory, TooLong}
use Rattle.run_cli.specs.Call.{Writing, Writes}
use Rattle.run_cli.specs.Cause.{Gets}
use Rattle.run_cli.specs.Given.{input_limit}
use Rattle.run_cli.specs.Live.{IsRunStatus}
use Rattle.run_cli.specs.Plans.{settings_for, plan_refusal}
use Rattle.run_cli.specs.Text.{fault_only}
use Rattle.run_cli.specs.Unclosed.{LivesShort, WantsMemoryAlone}
use Rattle.run_whole_cli.specs.Relations.{Relations}
use Rattle.run_whole_cli.specs.Given.{SaysPlan, HasPlan, RefusesPlan, HasNoPlan}
use Rattle.run_whole_cli.specs.Ends.{IsWholeRunEnd, whole_status}
use Rattle.run_whole_cli.specs.declared.left.WholeEnding.{WholeEnding}
use Rattle.run_whole_cli.specs.declared.left.WholeEnding.TheVariants as ends
use Rattle.run_whole_cli.specs.declared.left.WholeLeft.{WholeLeft}

-- what each end says; where the run wasn't made, or memory was wanting, nothing of it is handed back
abbrev pub IsWholeEnd : {W T O S : Type 0} → Relations W T O S → List ℕ → Writing → Option (WholeLeft W T O S)
    → WholeEnding → Type 0
IsWholeEnd k line w left (ends.Fault (Line number)) =
    ((number ≡ 1) × HasNoPlan line) × Writes w (fault_only (Line number)) × (left ≡ None)
IsWholeEnd k line w left (ends.Fault (BadPlan fault)) =
    RefusesPlan line fault × Writes w (fault_only (BadPlan fault)) × (left ≡ None)
IsWholeEnd k line w left (ends.Fault TooLong) =
    (input_limit < length line) × Writes w (fault_only TooLong) × (left ≡ None)
IsWholeEnd k line w left (ends.Fault Memory) =
    (left ≡ None) × (WantsMemoryAlone w ⊎ (HasPlan line × LivesShort w))
IsWholeEnd k line w left (ends.Fault Words) = ⊥
IsWholeEnd k line w left (ends.Fault (NotEnabled place)) = ⊥
IsWholeEnd k line w left (ends.Fault (ThirdSignal place)) =
    (x : HasPlan line) × IsWholeRunEnd k (settings_for x.keys x.plan) w left (ends.Fault (ThirdSignal place))
IsWholeEnd k line w left (ends.Fault Read) = ⊥
IsWholeEnd k line w left (ends.Fault Unfinished) =
    (x : HasPlan line) × IsWholeRunEnd k (settings_for x.keys x.plan) w left (ends.Fault Unfinished)
IsWholeEnd k line w left (ends.Fault Report) =
    (x : HasPlan line) × IsWholeRunEnd k (settings_for x.keys x.plan) w left (ends.Fault Report)
IsWholeEnd k line w left (ends.Outcome o) =
    (x : HasPlan line) × IsWholeRunEnd k (settings_for x.keys x.plan) w left (ends.Outcome o)
IsWholeEnd k line w left ends.Receipt =
    (x : HasPlan line) × IsWholeRunEnd k (settings_for x.keys x.plan) w left ends.Receipt
IsWholeEnd k line w left ends.Order =
    (x : HasPlan line) × IsWholeRunEnd k (settings_for x.keys x.plan) w left ends.Order

-- what status each cause gives
pub record GetsWhole (line : List ℕ) (status : ℕ) : Type 0 where
  pub too_long : input_limit < length line → Gets status 12
  pub bad_line : HasNoPlan line → Gets status 3
  pub refused : (keys : RunnerKeys) (plan : Plan) (error : TestRunnerBuildError) → SaysPlan line keys plan
      → plan_refusal keys plan ≡ Some error → Gets status 5
  pub accepted : (keys : RunnerKeys) (plan : Plan) → SaysPlan line keys plan → plan_refusal keys plan ≡ None
      → (status ≡ 7) ⊎ IsRunStatus status

-- what the run of a plan line says: one of its ends with this status, and what status each cause gives
pub record AnswersWhole {W T O S : Type 0} (k : Relations W T O S) (line : List ℕ) (w : Writing)
    (left : Option (WholeLeft W T O S)) (status : ℕ) : Type 0 where
  pub ending : WholeEnding
  pub status_is : status ≡ whole_status ending
  pub says : IsWholeEnd k line w left ending
  pub causes : GetsWhole line status
