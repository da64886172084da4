-- What carrying out the turns of a run into a sink does.
use Rattle.std.specs.Prelude.{ℕ, ◌≡◌, List, map, zip, Option, None, Result, Ok, Err, if◌then◌else◌, is_none, IsSome}
use Rattle.run_capture.specs.declared.source.Failed.{Failed}
use Rattle.run_events.specs.declared.settings.Settings.{Settings}
use Rattle.run_events.specs.declared.turn.Turn.{Turn}
use Rattle.run_events.specs.declared.ask.Ask.{Ask}
use Rattle.run_events.specs.declared.outcome.RunOutcome.{RunOutcome}
use Rattle.run_events.specs.declared.events.ReporterEvent.{ReporterEvent}
use Rattle.run_model.specs.declared.entry.Entry.{Entry}
use Rattle.run_model.specs.declared.happening.Happening.{Happening}
use Rattle.run_model.specs.Words.{asked, answers}
use Rattle.run_model.specs.Journal.{past_of}
use Rattle.run_laws.specs.Course.{none_refused}
use Rattle.run_engine.specs.World.{flagged}
use Rattle.run_engine.specs.Standing.{IsRunnable}
use Rattle.run_engine.specs.Execution.{IsAnswerOf}
use Rattle.run_engine.specs.declared.errors.TestRunnerExecuteErrors.{TestRunnerExecuteErrors}
use Rattle.run_output.specs.Asks.{ask_lines}
use Rattle.run_output.specs.Told.{TookLines, marks, AreCounted}
use Rattle.run_output.specs.declared.fault.Fault.{Fault}
use Rattle.run_output.specs.declared.fault.Fault.TheVariants.{Report}
use Rattle.run_cli.specs.Call.{Writing, HasTaken, HasWriteFault, Writes}
use Rattle.run_cli.specs.Text.{Form, joined, rest_text, history_text}

-- a sink took the line of each event that a history told, in order: each whole, or of one that was refused a front
-- part, and not all; and its count of faults rose at each that was refused, and at no other
pub record TookEvents (form : Form) (past : List Happening) (w : Writing) : Type 0 where
  pub events : List (ReporterEvent × Option Failed)
  pub flags : map flagged events ≡ answers past
  pub took : TookLines w.taken w.taken_after (zip (form.lines past) (map (λ event. event.1) events))
  pub counted : AreCounted (marks events) w.faults w.faults_after

-- a sink took the lines of a history's events so, and then the rest: whole, or where it failed there a front part, and
-- not all; and nothing else
pub record TookParts (form : Form) (past : List Happening) (rest : List ℕ) (w : Writing) : Type 0 where
  pub between : Option (List ℕ)
  pub count : ℕ
  pub events : TookEvents form past (record w { taken_after = between; faults_after = count })
  pub last : Writes (record w { taken = between; faults = count }) rest

-- the lines of a history went out: all where the sink didn't fail, and else parts of them; and nothing else
pub record WritesRun (form : Form) (past : List Happening) (ending : Result RunOutcome Fault) (w : Writing) : Type 0
  where
    pub whole : ¬ HasWriteFault w → HasTaken w (history_text form past ending)
    pub parts : TookParts form past (rest_text form past ending) w

-- the last line of a run that is over, where the sink failed: the outcome's if no event was refused, else the fault's
abbrev pub report_ending : List Entry → RunOutcome → Result RunOutcome Fault
report_ending journal outcome = if none_refused journal then Ok outcome else Err Report

-- the journal of the call says the answer and the asks. Where no event was refused, which its answers say, the sink has
-- taken the lines of the events whole and its count of faults stayed; else the count rose
pub record IsExecuted (form : Form) (p : Settings) (turns : List Turn) (w : Writing) (asks : List (ℕ × Ask))
    (answer : Result RunOutcome (TestRunnerExecuteErrors Failed)) : Type 0 where
  pub journal : List Entry
  pub refusal : Option Failed
  pub runnable : IsRunnable p journal
  pub says : IsAnswerOf p turns journal refusal answer
  pub marked : is_none refusal ≡ none_refused journal
  pub asked : asks ≡ form.asks (asked (past_of p journal))
  pub took : TookEvents form (past_of p journal) w
  pub told : refusal ≡ None → HasTaken w (joined (form.lines (past_of p journal)))
  pub quiet : refusal ≡ None → w.faults_after ≡ w.faults
  pub risen : IsSome refusal → HasWriteFault w

-- the same, of some asks whose lines these are
abbrev pub HasExecuted : Form → Settings → List Turn → Writing → List ℕ
    → Result RunOutcome (TestRunnerExecuteErrors Failed) → Type 0
HasExecuted form p turns w lines answer =
    (asks : List (ℕ × Ask)) × (lines ≡ ask_lines asks) × IsExecuted form p turns w asks answer
