-- How the lines after a run end the program.
use Rattle.std.specs.Prelude.{ℕ, ◌≡◌, ◌⊎◌, ◌≤◌, List, ◌++◌, true, false, Some, None, Result, Ok, Err}
use Rattle.run_input.specs.declared.plan_line.RunnerKeys.{RunnerKeys}
use Rattle.run_events.specs.declared.plan.Plan.{Plan}
use Rattle.run_capture.specs.declared.source.Failed.{Failed}
use Rattle.run_events.specs.declared.settings.Settings.{Settings}
use Rattle.run_events.specs.declared.turn.Turn.{Turn}
use Rattle.run_events.specs.declared.outcome.RunOutcome.{RunOutcome}
use Rattle.run_model.specs.declared.entry.Entry.{Entry}
use Rattle.run_model.specs.Words.{is_over}
use Rattle.run_model.specs.Journal.{past_of, IsLegal, outcome}
use Rattle.run_laws.specs.Course.{turns_of, none_refused}
use Rattle.run_engine.specs.Execution.{IsRefusedAt, UnlessMemory}
use Rattle.run_engine.specs.declared.errors.TestRunnerExecuteErrors.{TestRunnerExecuteErrors}
use Rattle.run_engine.specs.declared.errors.TestRunnerExecuteErrors.TheVariants as engine
use Rattle.run_output.specs.declared.fault.Fault.{Fault}
use Rattle.run_output.specs.declared.fault.Fault.TheVariants.{Plan as BadPlan, NotEnabled, ThirdSignal}
use Rattle.run_output.specs.declared.fault.Fault.TheVariants.{Unfinished, Report, Memory}
use Rattle.run_output.specs.Fields.{line_bytes}
use Rattle.run_output.specs.Outcomes.{outcome_text}
use Rattle.run_cli.specs.Call.{Writing, then_writing, HasTaken, HasTakenFront, HasWriteFault, Writes}
use Rattle.run_cli.specs.Executed.{TookParts, WritesRun, HasExecuted, report_ending}
use Rattle.run_cli.specs.Short.{IsShort, RunsShort, HasRunOut}
use Rattle.run_cli.specs.Commands.{form_of}
use Rattle.run_cli.specs.Plans.{settings_for, plan_refusal, IsPlanFault}
use Rattle.run_cli.specs.declared.command.Command.{Command}
use Rattle.run_cli.specs.Text.{Form, fault_only, rest_text, history_text}

-- the lines of asks and of a fault were written, where the sink failed a front part of them; or memory was wanting
abbrev pub EndsAtFault : Writing → List ℕ → Fault → Result RunOutcome Fault → Type 0
EndsAtFault w asks fault (Ok o) = ⊥
EndsAtFault w asks fault (Err e) =
    ((e ≡ Memory) × IsShort (asks ++ fault_only fault) w)
    ⊎ ((e ≡ fault) × (w.faults ≤ w.faults_after) × Writes w (asks ++ fault_only fault))

-- the lines of asks and of an outcome were written, or the sink failed, or memory was wanting
abbrev pub EndsAtOutcome : Writing → List ℕ → RunOutcome → Result RunOutcome Fault → Type 0
EndsAtOutcome w asks outcome (Ok o) =
    (o ≡ outcome) × HasTaken w (asks ++ line_bytes (outcome_text outcome)) × (w.faults_after ≡ w.faults)
EndsAtOutcome w asks outcome (Err Report) =
    (w.faults ≤ w.faults_after) × HasWriteFault w
    × HasTakenFront w (asks ++ line_bytes (outcome_text outcome))
EndsAtOutcome w asks outcome (Err Memory) = IsShort (asks ++ line_bytes (outcome_text outcome)) w
EndsAtOutcome w asks outcome (Err _) = ⊥

-- the turns of a plan were carried out so far: this journal is legal, and where the sink didn't fail it refused nothing
pub record IsReplayed (p : Settings) (w : Writing) : Type 0 where
  pub journal : List Entry
  pub legal : IsLegal p journal
  pub tied : ¬ HasWriteFault w → none_refused journal ≡ true

-- how the turns of a plan end, by a legal journal of them
abbrev pub IsReplayEnding : Form → Settings → List Turn → Writing → Result RunOutcome Fault → Type 0
IsReplayEnding form p turns w (Ok o) =
    (r : IsReplayed p w) × (turns_of r.journal ≡ turns) × (outcome p (past_of p r.journal) ≡ Some o)
    × HasTaken w (history_text form (past_of p r.journal) (Ok o)) × (w.faults_after ≡ w.faults)
    × TookParts form (past_of p r.journal) (rest_text form (past_of p r.journal) (Ok o)) w
IsReplayEnding form p turns w (Err Report) =
    (r : IsReplayed p w) × (turns_of r.journal ≡ turns)
    × ((o : RunOutcome) × (outcome p (past_of p r.journal) ≡ Some o)
    × TookParts form (past_of p r.journal) (rest_text form (past_of p r.journal) (report_ending r.journal o)) w)
    × HasWriteFault w
IsReplayEnding form p turns w (Err (NotEnabled place)) =
    (r : IsReplayed p w) × IsRefusedAt p turns r.journal place false
    × WritesRun form (past_of p r.journal) (Err (NotEnabled place)) w
IsReplayEnding form p turns w (Err (ThirdSignal place)) =
    (r : IsReplayed p w) × IsRefusedAt p turns r.journal place true
    × WritesRun form (past_of p r.journal) (Err (ThirdSignal place)) w
IsReplayEnding form p turns w (Err Unfinished) =
    (r : IsReplayed p w) × (turns_of r.journal ≡ turns) × (is_over (past_of p r.journal) ≡ false)
    × WritesRun form (past_of p r.journal) (Err Unfinished) w
IsReplayEnding form p turns w (Err Memory) = RunsShort form p turns w
IsReplayEnding form p turns w (Err _) = ⊥

-- what the answer to turns says of them: the journal of the call, or where memory was wanting how far they came
abbrev pub IsAnswered : Form → Settings → List Turn → Writing → List ℕ
    → Result RunOutcome (TestRunnerExecuteErrors Failed) → Type 0
IsAnswered form p turns w lines answer = UnlessMemory answer (HasExecuted form p turns w lines answer)
    × (answer ≡ Err engine.OutOfMemory → HasRunOut form p turns w lines)

-- whatever turns of a plan this is the answer to, with these lines of asks and with a sink that is left as this writing
-- found it, they end so
abbrev pub Finishes : Writing → List ℕ → Result RunOutcome (TestRunnerExecuteErrors Failed)
    → Result RunOutcome Fault → Type 0
Finishes v asks answer ending =
    (form : Form) (p : Settings) (turns : List Turn) (w : Writing)
    → v.taken ≡ w.taken_after → v.faults ≡ w.faults_after
    → IsAnswered form p turns w asks answer
    → IsReplayEnding form p turns (then_writing w v) ending

-- how a plan and its turns end: the plan is refused, or its turns end so
abbrev pub IsInputEnding : Command → RunnerKeys → Plan → List Turn → Writing → Result RunOutcome Fault → Type 0
IsInputEnding command keys plan turns w (Err (BadPlan fault)) = IsPlanFault keys plan fault
    × Writes w (fault_only (BadPlan fault))
IsInputEnding command keys plan turns w (Err Memory) = ((fault : Fault) × IsShort (fault_only fault) w)
    ⊎ ((plan_refusal keys plan ≡ None) × RunsShort (form_of command (settings_for keys plan))
    (settings_for keys plan) turns w)
IsInputEnding command keys plan turns w (Err fault) =
    (plan_refusal keys plan ≡ None) × IsReplayEnding (form_of command (settings_for keys plan))
    (settings_for keys plan) turns w (Err fault)
IsInputEnding command keys plan turns w (Ok outcome) =
    (plan_refusal keys plan ≡ None) × IsReplayEnding (form_of command (settings_for keys plan))
    (settings_for keys plan) turns w (Ok outcome)
