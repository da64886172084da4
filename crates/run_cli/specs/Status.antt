-- What each status of the program says.
use Rattle.std.specs.Prelude.{ℕ, ◌≡◌, ◌⊎◌, ◌<◌, List, [], ◌∷◌, ◌==◌, Ok, Err, true, false, Bool}
use Rattle.std.specs.List.{list_any}
use Rattle.run_input.specs.declared.plan_line.RunnerKeys.{RunnerKeys}
use Rattle.run_events.specs.declared.plan.Plan.{Plan}
use Rattle.run_events.specs.declared.turn.Turn.{Turn}
use Rattle.run_events.specs.declared.outcome.RunOutcome.{RunOutcome}
use Rattle.run_output.specs.declared.fault.Fault.TheVariants.{Words, Line, Plan as BadPlan, NotEnabled, ThirdSignal}
use Rattle.run_output.specs.declared.fault.Fault.TheVariants.{Unfinished, Read, TooLong}
use Rattle.run_output.specs.declared.fault.PlanFault.{PlanFault}
use Rattle.run_cli.specs.Call.{Call, HasTaken, HasReadFault, HasWriteFault, Writes}
use Rattle.run_cli.specs.Text.{fault_only, history_text, outcome_status}
use Rattle.run_cli.specs.Executed.{WritesRun}
use Rattle.run_cli.specs.Given.{IsTooLong, IsWithin, HasBadLine}
use Rattle.run_cli.specs.Ending.{Replays, IsWholeRun, WritesReport, StopsBefore, IsUnfinished, HasBadPlan, WantsMemory}
use Rattle.run_cli.specs.Ending.{history_in, form_in}
use Rattle.run_cli.specs.Commands.{IsNamedBy, NamesCommand}
use Rattle.run_cli.specs.declared.command.Command.{Command}
use Rattle.run_cli.specs.Cause.{Gets, HasInput, HasBadInput, HasTooMuch, GetsByCourse}

-- the statuses of outcomes: success, no tests run, failed or cancelled in tests, failed or cancelled in scripts
abbrev pub IsOutcomeStatus : ℕ → Type 0
IsOutcomeStatus status = (status ≡ 0) ⊎ ((status ≡ 4) ⊎ ((status ≡ 100) ⊎ (status ≡ 105)))

-- every status of the program
abbrev pub is_status : ℕ → Bool
is_status status = list_any (λ known. known == status) (0 ∷ 2 ∷ 3 ∷ 4 ∷ 5 ∷ 6 ∷ 7 ∷ 8 ∷ 9 ∷ 10 ∷
    11 ∷ 12 ∷ 100 ∷ 105 ∷ [])

-- every turn of the input was enabled and the run is over after the last, the bytes that the sink took are the text of
-- the journal as the command writes it, with the line of the outcome, and nothing else, each script and each test has
-- its fate, by its own turns' results, and the status is that of the outcome
pub record Headline (c : Call) (status : ℕ) : Type 0 where
  pub run : Replays c
  pub outcome : RunOutcome
  pub whole : IsWholeRun run outcome
  pub written : HasTaken c.sink (history_text (form_in run) (history_in run) (Ok outcome))
  pub status_is : status ≡ outcome_status outcome

-- the input has a first bad line, and the fault line names it
abbrev pub SaysBadLine : Call → Type 0
SaysBadLine c = NamesCommand c.words × ((number : ℕ) × HasBadLine c.source number
    × Writes c.sink (fault_only (Line number)))

-- the plan of the input is refused, and the fault line says why
abbrev pub SaysBadPlan : Call → Type 0
SaysBadPlan c = NamesCommand c.words × ((fault : PlanFault) × HasBadPlan c.source fault
    × Writes c.sink (fault_only (BadPlan fault)))

-- the turns up to a first one that isn't enabled were taken, and the lines are theirs and a fault line that names its
-- place; it is no third shutdown signal, or it is one
abbrev pub SaysNotEnabled : Call → Type 0
SaysNotEnabled c =
    (place : ℕ) × (r : Replays c) × StopsBefore r place false
    × WritesRun (form_in r) (history_in r) (Err (NotEnabled place)) c.sink

abbrev pub SaysThirdSignal : Call → Type 0
SaysThirdSignal c =
    (place : ℕ) × (r : Replays c) × StopsBefore r place true
    × WritesRun (form_in r) (history_in r) (Err (ThirdSignal place)) c.sink

-- all turns were taken, the run isn't over, and the lines are theirs and the fault line
abbrev pub SaysUnfinished : Call → Type 0
SaysUnfinished c = (r : Replays c) × IsUnfinished r
    × WritesRun (form_in r) (history_in r) (Err Unfinished) c.sink

-- all is as for an outcome's status, but for the sink, whose count of faults rose, and which took parts of the lines
abbrev pub SaysReport : Call → Type 0
SaysReport c = (r : Replays c) × (o : RunOutcome) × IsWholeRun r o × WritesReport r o × HasWriteFault c.sink

-- what each status says, and what status each cause gives
pub record Answers (c : Call) (status : ℕ) : Type 0 where
  -- the headline
  pub headline : IsOutcomeStatus status → Headline c status
  pub sound_sink : IsOutcomeStatus status → c.sink.faults_after ≡ c.sink.faults
  -- each refusal by its cause, with all that was written: where the sink failed, parts of it
  pub words : status ≡ 2 → (¬ NamesCommand c.words) × Writes c.sink (fault_only Words)
  pub no_words : ¬ NamesCommand c.words → (status ≡ 2) ⊎ (status ≡ 11)
  pub line : status ≡ 3 → SaysBadLine c
  pub plan : status ≡ 5 → SaysBadPlan c
  pub not_enabled : status ≡ 6 → SaysNotEnabled c
  pub third_signal : status ≡ 7 → SaysThirdSignal c
  pub unfinished : status ≡ 8 → SaysUnfinished c
  pub report : status ≡ 9 → SaysReport c
  pub read : status ≡ 10 → (NamesCommand c.words × IsWithin c.source × Writes c.sink (fault_only Read))
      × HasReadFault c.source
  -- 11: what went out is a front part of what the run writes, or of one fault line, and then of the line that says so
  pub memory : status ≡ 11 → WantsMemory c
  pub sound_source : (status ≡ 10 → ⊥) → (status ≡ 11 → ⊥) → c.source.faults_after ≡ c.source.faults
  pub too_long : status ≡ 12 → NamesCommand c.words × IsTooLong c.source × Writes c.sink (fault_only TooLong)
  pub known : is_status status ≡ true
  -- each cause, and its status
  pub unread : c.source.faults < c.source.faults_after → Gets status 10
  pub too_much : NamesCommand c.words → ¬ HasReadFault c.source → HasTooMuch c.source.left → Gets status 12
  pub bad_line : NamesCommand c.words → ¬ HasReadFault c.source → (number : ℕ) → HasBadInput c.source.left number
      → Gets status 3
  pub course : (command : Command) → IsNamedBy command c.words → ¬ HasReadFault c.source
      → (keys : RunnerKeys) (plan : Plan) (turns : List Turn)
      → HasInput c.source.left keys plan turns → GetsByCourse command keys plan turns c.sink status
