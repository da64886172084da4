-- What the text of a replay says to an auditor.
use Rattle.std.specs.Prelude.{ℕ, ◌≡◌, ◌≤◌, ◌<◌, List, [], ◌∷◌, ◌++◌, length, map, codes, Some, Ok}
use Rattle.std.specs.List.{All}
use Rattle.serde_json.specs.Data.{Data, string}
use Rattle.run_events.specs.declared.ask.Ask.{Ask}
use Rattle.run_events.specs.declared.outcome.RunOutcome.{RunOutcome}
use Rattle.run_events.specs.declared.plan.Plan.{Plan}
use Rattle.run_events.specs.declared.turn.Turn.{Turn}
use Rattle.run_model.specs.declared.entry.Entry.{Entry}
use Rattle.run_model.specs.declared.happening.Happening.{Happening}
use Rattle.run_model.specs.Journal.{IsLegal, past_of}
use Rattle.run_model.specs.Words.{asked, told}
use Rattle.run_input.specs.Input.{IsInput}
use Rattle.run_input.specs.Lines.{lines_of}
use Rattle.run_input.specs.declared.plan_line.RunnerKeys.{RunnerKeys}
use Rattle.run_output.specs.Asks.{ask_fields}
use Rattle.run_output.specs.Fields.{line_bytes, object_of, object_text}
use Rattle.run_text_laws.specs.Plain.{IsPlain}
use Rattle.run_audit_model.specs.Seen.{as_audited}
use Rattle.run_audit_model.specs.declared.audit_event.Verdict.TheVariants.{Yes}
use Rattle.run_laws_audit_line.specs.EventLines.{NumbersFit, event_data}
use Rattle.run_cli.specs.Call.{Call, Reading, Writing, HasReadFault, HasTaken, HasWriteFault}
use Rattle.run_cli.specs.Cause.{Gets}
use Rattle.run_cli.specs.Ending.{form_in, history_in}
use Rattle.run_cli.specs.Given.{input_limit}
use Rattle.run_cli.specs.Plans.{settings_for}
use Rattle.run_cli.specs.Status.{Headline}
use Rattle.run_cli.specs.Text.{history_text, whole_form}
use Rattle.run_audit_cli.specs.AuditCauses.{GetsAudited}
use Rattle.run_audit_cli.specs.AuditGiven.{AnswersAuditor}
use Rattle.run_audit_cli.specs.AuditLines.{IsAuditInput}
use Rattle.run_audit_cli.specs.Verdicts.{verdict_line_text}

-- the line that says that event lines follow
abbrev pub mark_text : List ℕ
mark_text = object_text ((codes "audit", Some (string (codes "events"))) ∷ [])

-- the lines of an audit of a replay: those of its input, that line, and those of its text
abbrev pub audit_lines : List (List ℕ) → List ℕ → List (List ℕ)
audit_lines input text = input ++ mark_text ∷ lines_of text

-- an input that ends with a line feed, that line and a text, one after another, have the lines of such an audit
abbrev pub AuditsHaveTheseLines : Type 0
AuditsHaveTheseLines = (input text : List ℕ)
    → lines_of (line_bytes input ++ (line_bytes mark_text ++ text)) ≡ audit_lines (lines_of (line_bytes input)) text

-- the object that the line of an ask is the text of
abbrev pub ask_data : ℕ × Ask → Data
ask_data ask = object_of (ask_fields ask.0 ask.1)

-- the data of all that a history told and asked are plain, and the numbers that an auditor sees of its events fit
pub record HasPlainLines (past : List Happening) : Type 0 where
  pub events : All (λ e. IsPlain (event_data e)) (told past)
  pub numbers : All NumbersFit (told past)
  pub asks : All (λ ask. IsPlain (ask_data ask)) (asked past)

-- the input of a replay and the text of its run are read as the plan, the turns and what is seen of the told events
abbrev pub ReplayedTextIsRead : Type 0
ReplayedTextIsRead =
    (input : List (List ℕ)) (keys : RunnerKeys) (plan : Plan) (turns : List Turn) (journal : List Entry)
    (o : RunOutcome) → IsInput input keys plan turns → IsLegal (settings_for keys plan) journal
    → HasPlainLines (past_of (settings_for keys plan) journal)
    → IsAuditInput (audit_lines input (history_text whole_form (past_of (settings_for keys plan) journal) (Ok o)))
    keys plan turns (map as_audited (told (past_of (settings_for keys plan) journal)))

-- what a replay wrote that ended with an outcome
abbrev pub written_by : {c : Call} {status : ℕ} → Headline c status → List ℕ
written_by h = history_text (form_in h.run) (history_in h.run) (Ok h.outcome)

-- a source tells the bytes of an audit of such a replay: no more than an input may have, and with these lines
pub record GivesTextOf {c : Call} {replayed : ℕ} (h : Headline c replayed) (r : Reading) : Type 0 where
  pub bytes : List ℕ
  pub told : r.left ≡ Some bytes
  pub within : length bytes ≤ input_limit
  pub lines : lines_of bytes ≡ audit_lines (lines_of h.run.given.bytes) (written_by h)

-- what the contract of an auditor says of a call by its word
abbrev pub Audits : Reading → Writing → ℕ → Type 0
Audits r w status = AnswersAuditor r w status × GetsAudited r w status

-- 0 where the sink didn't fail, which then took the line that says yes; 9 where it failed; want of memory apart
pub record GetsYes (w : Writing) (status : ℕ) : Type 0 where
  pub yes : ¬ HasWriteFault w → Gets status 0
  pub line : status ≡ 0 → HasTaken w (line_bytes (verdict_line_text Yes))
  pub unwritten : w.faults < w.faults_after → Gets status 9

-- an audit of what `replay` wrote with the status of an outcome gets yes
abbrev pub ReplayedTextGetsYes : Type 0
ReplayedTextGetsYes =
    (c : Call) (replayed : ℕ) (h : Headline c replayed) → c.words ≡ codes "replay" ∷ [] → ¬ HasWriteFault c.sink
    → HasPlainLines (history_in h.run) → (r : Reading) (w : Writing) (status : ℕ) → GivesTextOf h r
    → ¬ HasReadFault r → Audits r w status → GetsYes w status
