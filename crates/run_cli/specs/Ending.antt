-- What each end of the program says, from the bytes that come in to the bytes that go out.
use Rattle.std.specs.Prelude.{ℕ, ◌≡◌, ◌⊎◌, List, take, slice_get, Bool, false, true, Some, None, Result, Ok, Err}
use Rattle.std.specs.List.{All, Contains}
use Rattle.run_input.specs.declared.plan_line.RunnerKeys.{RunnerKeys}
use Rattle.run_events.specs.declared.plan.Plan.{Plan}
use Rattle.run_events.specs.declared.settings.Settings.{Settings}
use Rattle.run_events.specs.declared.turn.Turn.{Turn}
use Rattle.run_events.specs.declared.outcome.RunOutcome.{RunOutcome}
use Rattle.run_model.specs.declared.entry.Entry.{Entry}
use Rattle.run_model.specs.declared.happening.Happening.{Happening}
use Rattle.run_model.specs.Words.{is_over, sub_run, ended_runs}
use Rattle.run_model.specs.Turns.{enabled}
use Rattle.run_model.specs.Journal.{past_of, IsLegal, outcome}
use Rattle.run_model.specs.Fates.{HaveFates}
use Rattle.run_laws.specs.Course.{turns_of, none_refused, is_third_after}
use Rattle.run_output.specs.declared.fault.Fault.{Fault}
use Rattle.run_output.specs.declared.fault.Fault.TheVariants.{Words, Line, Plan as BadPlan, NotEnabled, ThirdSignal}
use Rattle.run_output.specs.declared.fault.Fault.TheVariants.{Unfinished, Report, Read, Memory, TooLong}
use Rattle.run_output.specs.declared.fault.PlanFault.{PlanFault}
use Rattle.run_cli.specs.Call.{Call, Reading, HasTaken, HasWriteFault, Writes}
use Rattle.run_cli.specs.Executed.{TookParts, WritesRun, report_ending}
use Rattle.run_cli.specs.Short.{IsShort, RunsShort}
use Rattle.run_cli.specs.Plans.{settings_for, plan_refusal, IsPlanFault}
use Rattle.run_cli.specs.Given.{SaysInput, IsTooLong, IsWithin, HasBadLine}
use Rattle.run_cli.specs.Text.{Form, fault_only, rest_text, history_text}
use Rattle.run_cli.specs.Commands.{IsNamedBy, NamesCommand, form_of}
use Rattle.run_cli.specs.declared.command.Command.{Command}

-- the words are good, the source was read to its end, its lines say a plan that is accepted and its turns, and this
-- legal journal has some of those turns, each with the reporter's answers; where the sink didn't fail, it refused none
pub record Replays (c : Call) : Type 0 where
  pub command : Command
  pub named : IsNamedBy command c.words
  pub keys : RunnerKeys
  pub plan : Plan
  pub turns : List Turn
  pub given : SaysInput c.source keys plan turns
  pub accepted : plan_refusal keys plan ≡ None
  pub journal : List Entry
  pub legal : IsLegal (settings_for keys plan) journal
  pub tied : ¬ HasWriteFault c.sink → none_refused journal ≡ true

-- the settings and the history of such a run
abbrev pub settings_in : {c : Call} → Replays c → Settings
settings_in r = settings_for r.keys r.plan

abbrev pub history_in : {c : Call} → Replays c → List Happening
history_in r = past_of (settings_for r.keys r.plan) r.journal

-- how its command writes it
abbrev pub form_in : {c : Call} → Replays c → Form
form_in r = form_of r.command (settings_for r.keys r.plan)

-- a run of this journal is over with this outcome, and each script and each test of the plan has its fate in each
-- sub-run that has ended, the newest among them: a test that doesn't match was skipped once; any other, and any script,
-- was started and finished once, by its own turns' results, or, exactly where a cause came first, was never started or
-- was left there
pub record IsFinished (p : Settings) (journal : List Entry) (o : RunOutcome) : Type 0 where
  pub over : outcome p (past_of p journal) ≡ Some o
  pub accounts : All (HaveFates p) (ended_runs (past_of p journal))
  pub ended : Contains (ended_runs (past_of p journal)) (sub_run (past_of p journal))

-- the run took every turn of the input and is finished so
pub record IsWholeRun {c : Call} (r : Replays c) (o : RunOutcome) : Type 0 where
  pub all : turns_of r.journal ≡ r.turns
  pub finished : IsFinished (settings_in r) r.journal o

-- the sink, which failed, took the lines of the told events, of each that was refused a front part, and the rest, or
-- where it failed there a front part: the lines of asks and of the outcome, or where an event was refused of the fault
abbrev pub WritesReport : {c : Call} → Replays c → RunOutcome → Type 0
WritesReport {c} r o = TookParts (form_in r) (history_in r)
    (rest_text (form_in r) (history_in r) (report_ending r.journal o)) c.sink

-- the turn at this place is the first that isn't enabled, and is a shutdown signal that would be taken, but that two
-- came before it, or not
pub record StopsBefore {c : Call} (r : Replays c) (place : ℕ) (third : Bool) : Type 0 where
  pub before : turns_of r.journal ≡ take place r.turns
  pub turn : Turn
  pub at : slice_get r.turns place ≡ Some turn
  pub refused : enabled (settings_in r) (history_in r) turn ≡ false
  pub whether : is_third_after (settings_in r) (history_in r) turn ≡ third

-- every turn was enabled, and the run isn't over after the last
pub record IsUnfinished {c : Call} (r : Replays c) : Type 0 where
  pub all : turns_of r.journal ≡ r.turns
  pub goes_on : is_over (history_in r) ≡ false

-- the source was read to its end, and its lines say a plan that is refused, and turns
pub record HasBadPlan (source : Reading) (fault : PlanFault) : Type 0 where
  pub keys : RunnerKeys
  pub plan : Plan
  pub turns : List Turn
  pub given : SaysInput source keys plan turns
  pub refused : IsPlanFault keys plan fault

-- the words are good, the source was read to its end and its lines say a plan that is accepted and turns, and memory
-- was wanting while these were carried out, or once they were
pub record RanShort (c : Call) : Type 0 where
  pub command : Command
  pub named : IsNamedBy command c.words
  pub keys : RunnerKeys
  pub plan : Plan
  pub turns : List Turn
  pub given : SaysInput c.source keys plan turns
  pub accepted : plan_refusal keys plan ≡ None
  pub short : RunsShort (form_of command (settings_for keys plan)) (settings_for keys plan) turns c.sink

-- memory was wanting: before a run was begun, where of one fault line a front part went out; or so
abbrev pub WantsMemory : Call → Type 0
WantsMemory c = ((fault : Fault) × IsShort (fault_only fault) c.sink) ⊎ RanShort c

-- what each end says
abbrev pub IsEnding : Call → Result RunOutcome Fault → Type 0
IsEnding c (Ok o) =
    (r : Replays c) × IsWholeRun r o × HasTaken c.sink (history_text (form_in r) (history_in r) (Ok o))
    × (c.sink.faults_after ≡ c.sink.faults)
    × TookParts (form_in r) (history_in r) (rest_text (form_in r) (history_in r) (Ok o)) c.sink
IsEnding c (Err Report) = (r : Replays c) × (o : RunOutcome) × IsWholeRun r o × WritesReport r o × HasWriteFault c.sink
IsEnding c (Err (NotEnabled place)) =
    (r : Replays c) × StopsBefore r place false
    × WritesRun (form_in r) (history_in r) (Err (NotEnabled place)) c.sink
IsEnding c (Err (ThirdSignal place)) =
    (r : Replays c) × StopsBefore r place true
    × WritesRun (form_in r) (history_in r) (Err (ThirdSignal place)) c.sink
IsEnding c (Err Unfinished) =
    (r : Replays c) × IsUnfinished r × WritesRun (form_in r) (history_in r) (Err Unfinished) c.sink
IsEnding c (Err Words) = (¬ NamesCommand c.words) × Writes c.sink (fault_only Words)
IsEnding c (Err Read) = NamesCommand c.words × IsWithin c.source × Writes c.sink (fault_only Read)
IsEnding c (Err TooLong) = NamesCommand c.words × IsTooLong c.source × Writes c.sink (fault_only TooLong)
IsEnding c (Err (Line number)) = NamesCommand c.words × HasBadLine c.source number
    × Writes c.sink (fault_only (Line number))
IsEnding c (Err (BadPlan fault)) = NamesCommand c.words × HasBadPlan c.source fault
    × Writes c.sink (fault_only (BadPlan fault))
IsEnding c (Err Memory) = WantsMemory c
