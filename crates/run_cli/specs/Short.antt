-- What a sink has taken where memory was wanting.
use Rattle.std.specs.Prelude.{ℕ, ◌≡◌, ◌≤◌, ◌<◌, List, [], ◌∷◌, ◌++◌, length, map, take, zip, Bool, Option, Result}
use Rattle.std.specs.Prelude.{Ok, Err}
use Rattle.run_capture.specs.declared.source.Failed.{Failed}
use Rattle.run_events.specs.declared.settings.Settings.{Settings}
use Rattle.run_events.specs.declared.turn.Turn.{Turn}
use Rattle.run_events.specs.declared.ask.Ask.{Ask}
use Rattle.run_events.specs.declared.outcome.RunOutcome.{RunOutcome}
use Rattle.run_events.specs.declared.events.ReporterEvent.{ReporterEvent}
use Rattle.run_model.specs.declared.entry.Entry.{Entry}
use Rattle.run_model.specs.declared.happening.Happening.{Happening}
use Rattle.run_model.specs.Words.{answers, asked, events_in}
use Rattle.run_model.specs.Journal.{IsLegal, past_of}
use Rattle.run_laws.specs.Course.{turns_of}
use Rattle.run_engine.specs.World.{flagged}
use Rattle.run_engine.specs.Execution.{IsAnswerOf}
use Rattle.run_engine.specs.declared.errors.TestRunnerExecuteErrors.{TestRunnerExecuteErrors}
use Rattle.run_engine.specs.declared.errors.TestRunnerExecuteErrors.TheVariants as engine
use Rattle.run_output.specs.Asks.{ask_lines}
use Rattle.run_output.specs.Fields.{line_bytes}
use Rattle.run_output.specs.Told.{TookLines, marks, AreCounted}
use Rattle.run_output.specs.declared.fault.Fault.{Fault}
use Rattle.run_output.specs.declared.fault.Fault.TheVariants.{NotEnabled, ThirdSignal, Unfinished, Report, Memory}
use Rattle.run_cli.specs.Call.{Writing, HasTaken}
use Rattle.run_cli.specs.Text.{Form, fault_only, last_text}

-- a front part of these bytes went out, but not all, and then a front part of the line that memory was wanting, or all
-- of it
pub record IsShort (text : List ℕ) (w : Writing) : Type 0 where
  pub front : List ℕ
  pub left : List ℕ
  pub some : 0 < length left
  pub parts : text ≡ front ++ left
  pub said : ℕ
  pub took : HasTaken w (front ++ take said (fault_only Memory))

-- how many events the latest turn of a history told
abbrev pub told_last : List Happening → ℕ
told_last [] = 0
told_last (x ∷ past) = length (events_in x)

-- a sink took the lines of the first events of a history, all but some of its latest turn's: each whole, or of one that
-- was refused a front part
pub record TookFirst (form : Form) (past : List Happening) (w : Writing) : Type 0 where
  pub events : List (ReporterEvent × Option Failed)
  pub left : List (ReporterEvent × Bool)
  pub flags : map flagged events ++ left ≡ answers past
  pub few : length left ≤ told_last past
  pub took : TookLines w.taken w.taken_after (zip (form.lines past) (map (λ event. event.1) events))
  pub counted : AreCounted (marks events) w.faults w.faults_after

-- the fault that an error of the engine is
abbrev pub fault_of_error : {E : Type 0} → TestRunnerExecuteErrors E → Fault
fault_of_error (engine.Report e) = Report
fault_of_error (engine.NotEnabled place) = NotEnabled place
fault_of_error (engine.ThirdSignal place) = ThirdSignal place
fault_of_error engine.Unfinished = Unfinished
fault_of_error engine.OutOfMemory = Memory

-- memory was wanting while the turns of a list were taken: this legal journal has the first of them, and the sink took
-- the lines of its events, maybe not of all that its latest turn told; it asked these asks, and maybe one more
pub record IsRunOut (form : Form) (p : Settings) (turns : List Turn) (w : Writing) (asks : List (ℕ × Ask)) : Type 0
  where
    pub journal : List Entry
    pub legal : IsLegal p journal
    pub taken : ℕ
    pub takes : turns_of journal ≡ take taken turns
    pub later : List (ℕ × Ask)
    pub asked : form.asks (asked (past_of p journal)) ≡ asks ++ later
    pub one : length later ≤ 1
    pub took : TookFirst form (past_of p journal) w

-- the same, of some asks whose lines these are
abbrev pub HasRunOut : Form → Settings → List Turn → Writing → List ℕ → Type 0
HasRunOut form p turns w lines = (asks : List (ℕ × Ask)) × (lines ≡ ask_lines asks) × IsRunOut form p turns w asks

-- how a run ends that is answered so, if memory isn't wanting after it
abbrev pub ending_by : Result RunOutcome (TestRunnerExecuteErrors Failed) → Result RunOutcome Fault
ending_by (Ok outcome) = Ok outcome
ending_by (Err error) = Err (fault_of_error error)

-- memory was wanting while the turns of a list were taken, or once they were. This legal journal has the first of them,
-- and says the answer. The sink took the lines of its events, maybe not of all that its latest turn told, and of its
-- asks, maybe not of its latest turn's; of what was left to write, those asks and the last line, it took a front part,
-- but not all; then a front part of the line that memory was wanting, or all of it
pub record RunsShort (form : Form) (p : Settings) (turns : List Turn) (w : Writing) : Type 0 where
  pub journal : List Entry
  pub legal : IsLegal p journal
  pub taken : ℕ
  pub takes : turns_of journal ≡ take taken turns
  pub refusal : Option Failed
  pub answer : Result RunOutcome (TestRunnerExecuteErrors Failed)
  pub says : IsAnswerOf p turns journal refusal answer
  pub asks : List (ℕ × Ask)
  pub later : List (ℕ × Ask)
  pub asked : form.asks (asked (past_of p journal)) ≡ asks ++ later
  pub one : length later ≤ 1
  pub between : Option (List ℕ)
  pub count : ℕ
  pub events : TookFirst form (past_of p journal) (record w { taken_after = between; faults_after = count })
  pub whole : (answer ≡ Err engine.OutOfMemory → ⊥) → (events.left ≡ []) × (later ≡ [])
  pub last : IsShort (ask_lines asks ++ line_bytes (last_text (ending_by answer)))
      (record w { taken = between; faults = count })
