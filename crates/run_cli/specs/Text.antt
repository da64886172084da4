-- The text of a run: the lines of what it told and asked, and its last line.
use Rattle.std.specs.Prelude.{ℕ, List, [], ◌∷◌, ◌++◌, map, Result, Ok, Err}
use Rattle.run_events.specs.declared.ask.Ask.{Ask}
use Rattle.run_events.specs.declared.outcome.RunStep.TheVariants as steps
use Rattle.run_events.specs.declared.outcome.RunOutcome.{RunOutcome}
use Rattle.run_events.specs.declared.outcome.RunOutcome.TheVariants as outcomes
use Rattle.run_model.specs.declared.happening.Happening.{Happening}
use Rattle.run_model.specs.Words.{told, asked}
use Rattle.run_output.specs.declared.fault.Fault.{Fault}
use Rattle.run_output.specs.Fields.{line_bytes}
use Rattle.run_output.specs.Told.{event_line}
use Rattle.run_output.specs.Asks.{ask_lines}
use Rattle.run_output.specs.Outcomes.{outcome_text}
use Rattle.run_output.specs.Faults.{fault_text, fault_status}

-- how a command writes a run: a line for each event that a history told, which may be of no bytes, and the asks that it
-- writes of those asked
pub record Form : Type 0 where
  pub lines : List Happening → List (List ℕ)
  pub asks : List (ℕ × Ask) → List (ℕ × Ask)

-- the line of each event, and each ask
abbrev pub whole_form : Form
whole_form = record { lines = λ past. map event_line (told past); asks = λ asks. asks }

-- lines one after another
abbrev pub joined : List (List ℕ) → List ℕ
joined [] = []
joined (line ∷ lines) = line ++ joined lines

-- the last line: the outcome, or the fault
abbrev pub last_text : Result RunOutcome Fault → List ℕ
last_text (Ok outcome) = outcome_text outcome
last_text (Err fault) = fault_text fault

-- the line of a fault alone
abbrev pub fault_only : Fault → List ℕ
fault_only fault = line_bytes (fault_text fault)

-- the lines after those of events: of what a history asked, and the last line
abbrev pub rest_text : Form → List Happening → Result RunOutcome Fault → List ℕ
rest_text form past ending = ask_lines (form.asks (asked past)) ++ line_bytes (last_text ending)

-- the lines of a history: what it told, then what it asked, then the last line
abbrev pub history_text : Form → List Happening → Result RunOutcome Fault → List ℕ
history_text form past ending = joined (form.lines past) ++ rest_text form past ending

-- the status of an outcome
abbrev pub outcome_status : RunOutcome → ℕ
outcome_status outcomes.Success = 0
outcome_status outcomes.NoTestsRun = 4
outcome_status (outcomes.Failed steps.Test) = 100
outcome_status (outcomes.Failed steps.SetupScript) = 105
outcome_status (outcomes.Cancelled steps.Test) = 100
outcome_status (outcomes.Cancelled steps.SetupScript) = 105

-- the status that the program ends with
abbrev pub ending_status : Result RunOutcome Fault → ℕ
ending_status (Ok outcome) = outcome_status outcome
ending_status (Err fault) = fault_status fault
