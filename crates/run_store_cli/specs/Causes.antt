-- What status each cause gives, where the source's bytes are told and its count of faults didn't rise.
use Rattle.std.specs.Prelude.{ℕ, ◌≡◌, ◌⊎◌, ◌≤◌, ◌<◌, List, take, length, Bool, false, Option, Some, None}
use Rattle.run_events.specs.declared.plan.Plan.{Plan}
use Rattle.run_events.specs.declared.settings.Settings.{Settings}
use Rattle.run_events.specs.declared.turn.Turn.{Turn}
use Rattle.run_events.specs.declared.outcome.RunOutcome.{RunOutcome}
use Rattle.run_model.specs.declared.entry.Entry.{Entry}
use Rattle.run_model.specs.Journal.{past_of}
use Rattle.run_laws.specs.Course.{IsJournalOf, Stops, GoesOn, Ends}
use Rattle.run_engine.specs.declared.errors.TestRunnerBuildError.{TestRunnerBuildError}
use Rattle.run_input.specs.declared.plan_line.RunnerKeys.{RunnerKeys}
use Rattle.run_input.specs.Input.{plan_line_of}
use Rattle.run_store.specs.Stores.{StoreReading, whole, torn, no_plan, bad, AreStored, IsReading}
use Rattle.run_store_io.specs.Reads.{most_stored}
use Rattle.run_cli.specs.Call.{Reading, Writing, HasReadFault, HasWriteFault}
use Rattle.run_cli.specs.Cause.{Gets, HasInput, HasBadInput, HasTooMuch, GetsByCourse, stop_status}
use Rattle.run_cli.specs.Executed.{TookParts}
use Rattle.run_cli.specs.Plans.{settings_for, plan_refusal}
use Rattle.run_cli.specs.Text.{whole_form}
use Rattle.run_cli.specs.declared.command.Command.TheVariants.{Replay}

-- of `record`: an input that a store can have was written, or the sink failed, where its count of faults stayed or rose
pub record GetsRecorded (r : Reading) (w : Writing) (status : ℕ) : Type 0 where
  pub unread : r.faults < r.faults_after → Gets status 10
  pub too_much : ¬ HasReadFault r → HasTooMuch r.left → Gets status 12
  pub bad_line : ¬ HasReadFault r → (number : ℕ) → HasBadInput r.left number → Gets status 3
  pub stored : ¬ HasReadFault r → (keys : RunnerKeys) (plan : Plan) (turns : List Turn)
      → HasInput r.left keys plan turns → AreStored turns → ¬ HasWriteFault w → Gets status 0
  pub unstored : ¬ HasReadFault r → (keys : RunnerKeys) (plan : Plan) (turns : List Turn)
      → HasInput r.left keys plan turns → ¬ AreStored turns → ¬ HasWriteFault w → Gets status 12
  pub unwritten : ¬ HasReadFault r → (keys : RunnerKeys) (plan : Plan) (turns : List Turn)
      → HasInput r.left keys plan turns → w.faults < w.faults_after → Gets status 9

-- the source has bytes that are read so, and no more than a store may have
pub record HasStore (left : Option (List ℕ)) (reading : StoreReading) : Type 0 where
  pub bytes : List ℕ
  pub told : left ≡ Some bytes
  pub within : length bytes ≤ most_stored
  pub read : IsReading bytes reading

-- the source has more than a store may have
pub record HasTooMuchStored (left : Option (List ℕ)) : Type 0 where
  pub bytes : List ℕ
  pub told : left ≡ Some bytes
  pub above : most_stored < length bytes

-- turns up to some place were taken with a reporter's answers, and the sink shows that these were its own: it took the
-- line of each event whole, and its count of faults stayed there; but of a refused one a front part, and its count rose
pub record ShowsAnswers (p : Settings) (turns : List Turn) (refuses : ℕ → Bool) (w : Writing) : Type 0 where
  pub place : ℕ
  pub journal : List Entry
  pub answered : IsJournalOf p (take place turns) refuses journal
  pub rest : List ℕ
  pub parts : TookParts whole_form (past_of p journal) rest w

-- the status that a plan and the turns of a torn store get: the plan is refused; or with just the answers that the sink
-- gave, which refused no event where it didn't fail, the turns stop at one that isn't enabled; or they leave the run
-- unfinished, or end it, which is the same
pub record GetsTorn (keys : RunnerKeys) (plan : Plan) (turns : List Turn) (w : Writing) (status : ℕ) : Type 0 where
  pub refuses : ℕ → Bool
  pub tied : ¬ HasWriteFault w → (n : ℕ) → refuses n ≡ false
  pub answered : plan_refusal keys plan ≡ None
      → (status ≡ 11) ⊎ ShowsAnswers (settings_for keys plan) turns refuses w
  pub refused : (error : TestRunnerBuildError) → plan_refusal keys plan ≡ Some error → Gets status 5
  pub stops : plan_refusal keys plan ≡ None → (place : ℕ) (third : Bool)
      → Stops (settings_for keys plan) turns refuses place third → Gets status (stop_status third)
  pub unfinished : plan_refusal keys plan ≡ None → GoesOn (settings_for keys plan) turns refuses → Gets status 14
  pub ended : plan_refusal keys plan ≡ None → (o : RunOutcome) → Ends (settings_for keys plan) turns refuses o
      → Gets status 14

-- of `play`: a whole store gets what a replay of its plan and turns gets
pub record GetsPlayed (r : Reading) (w : Writing) (status : ℕ) : Type 0 where
  pub unread : r.faults < r.faults_after → Gets status 10
  pub too_much : ¬ HasReadFault r → HasTooMuchStored r.left → Gets status 12
  pub planless : ¬ HasReadFault r → HasStore r.left no_plan → Gets status 14
  pub broken : ¬ HasReadFault r → (place : ℕ) → HasStore r.left (bad place) → Gets status 15
  pub whole_store : ¬ HasReadFault r → (line : List ℕ) (keys : RunnerKeys) (plan : Plan) (turns : List Turn)
      → HasStore r.left (whole line turns) → plan_line_of line ≡ Some (keys, plan)
      → GetsByCourse Replay keys plan turns w status
  pub torn_store : ¬ HasReadFault r → (line : List ℕ) (keys : RunnerKeys) (plan : Plan) (turns : List Turn)
      → HasStore r.left (torn line turns) → plan_line_of line ≡ Some (keys, plan) → GetsTorn keys plan turns w status
