-- What status each cause gives, where the source's bytes are told and its count of faults didn't rise.
use Rattle.std.specs.Prelude.{ℕ, ◌≡◌, ◌⊎◌, ◌≤◌, ◌<◌, List, length, take, Bool, true, false, Option, Some, None, Result}
use Rattle.run_input.specs.declared.plan_line.RunnerKeys.{RunnerKeys}
use Rattle.run_events.specs.declared.plan.Plan.{Plan}
use Rattle.run_events.specs.declared.settings.Settings.{Settings}
use Rattle.run_events.specs.declared.turn.Turn.{Turn}
use Rattle.run_events.specs.declared.outcome.RunOutcome.{RunOutcome}
use Rattle.run_model.specs.declared.entry.Entry.{Entry}
use Rattle.run_model.specs.Journal.{past_of}
use Rattle.run_laws.specs.Course.{IsJournalOf, Stops, GoesOn, Ends}
use Rattle.run_engine.specs.declared.errors.TestRunnerBuildError.{TestRunnerBuildError}
use Rattle.run_input.specs.Lines.{lines_of}
use Rattle.run_input.specs.Input.{IsInput, IsFirstBad}
use Rattle.run_output.specs.declared.fault.Fault.{Fault}
use Rattle.run_cli.specs.Call.{Writing, HasWriteFault}
use Rattle.run_cli.specs.Executed.{TookParts}
use Rattle.run_cli.specs.Plans.{settings_for, plan_refusal}
use Rattle.run_cli.specs.Given.{input_limit}
use Rattle.run_cli.specs.Text.{Form, rest_text, outcome_status}
use Rattle.run_cli.specs.Commands.{form_of}
use Rattle.run_cli.specs.declared.command.Command.{Command}

-- a status, unless memory was wanting
abbrev pub Gets : ℕ → ℕ → Type 0
Gets status expected = (status ≡ expected) ⊎ (status ≡ 11)

-- the source has an input, whose lines say a plan and turns
pub record HasInput (left : Option (List ℕ)) (keys : RunnerKeys) (plan : Plan) (turns : List Turn) : Type 0
  where
    pub bytes : List ℕ
    pub told : left ≡ Some bytes
    pub within : length bytes ≤ input_limit
    pub says : IsInput (lines_of bytes) keys plan turns

-- the source has an input whose line of this number is the first bad one
pub record HasBadInput (left : Option (List ℕ)) (number : ℕ) : Type 0 where
  pub bytes : List ℕ
  pub told : left ≡ Some bytes
  pub within : length bytes ≤ input_limit
  pub bad : IsFirstBad (lines_of bytes) number

-- the source has more than an input may have
pub record HasTooMuch (left : Option (List ℕ)) : Type 0 where
  pub bytes : List ℕ
  pub told : left ≡ Some bytes
  pub above : input_limit < length bytes

-- the status of turns that stop: at a third shutdown signal, or at another turn
abbrev pub stop_status : Bool → ℕ
stop_status true = 7
stop_status false = 6

-- turns up to some place were taken with a reporter's answers, and the sink shows that these were its own: it took the
-- line of each event whole, and its count of faults stayed there; but of a refused one a front part, and not all, and
-- its count rose there; then the rest went out, whole or a front part, where the count stayed or rose
pub record IsAnsweredSo (form : Form) (p : Settings) (turns : List Turn) (refuses : ℕ → Bool) (w : Writing) : Type 0
  where
    pub place : ℕ
    pub journal : List Entry
    pub answered : IsJournalOf p (take place turns) refuses journal
    pub ending : Result RunOutcome Fault
    pub parts : TookParts form (past_of p journal) (rest_text form (past_of p journal) ending) w

-- the status that a plan and its turns get: the plan is refused; or with just the answers that the sink gave, which
-- refused no event where it didn't fail, the turns stop at one that isn't enabled, or leave the run unfinished, or end
-- it, where the sink's count of faults stayed or rose
pub record GetsByCourse (command : Command) (keys : RunnerKeys) (plan : Plan) (turns : List Turn) (w : Writing)
    (status : ℕ) : Type 0 where
  pub refuses : ℕ → Bool
  pub tied : ¬ HasWriteFault w → (n : ℕ) → refuses n ≡ false
  pub answered : plan_refusal keys plan ≡ None → (status ≡ 11)
      ⊎ IsAnsweredSo (form_of command (settings_for keys plan)) (settings_for keys plan) turns refuses w
  pub refused : (error : TestRunnerBuildError) → plan_refusal keys plan ≡ Some error → Gets status 5
  pub stops : plan_refusal keys plan ≡ None → (place : ℕ) (third : Bool)
      → Stops (settings_for keys plan) turns refuses place third → Gets status (stop_status third)
  pub unfinished : plan_refusal keys plan ≡ None → GoesOn (settings_for keys plan) turns refuses → Gets status 8
  pub ended : plan_refusal keys plan ≡ None → (o : RunOutcome) → Ends (settings_for keys plan) turns refuses o
      → ¬ HasWriteFault w → Gets status (outcome_status o)
  pub unreported : plan_refusal keys plan ≡ None → (o : RunOutcome) → Ends (settings_for keys plan) turns refuses o
      → w.faults < w.faults_after → Gets status 9
