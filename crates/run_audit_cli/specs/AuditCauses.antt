-- What status each cause gives, where the source's bytes are told and its count of faults didn't rise.
use Rattle.std.specs.Prelude.{ℕ, ◌≡◌, ◌⊎◌, ◌≤◌, ◌<◌, List, [], ◌∷◌, length, map, Option, Some, None, Bool, true}
use Rattle.std.specs.List.{Contains}
use Rattle.run_events.specs.declared.plan.Plan.{Plan}
use Rattle.run_events.specs.declared.settings.Settings.{Settings}
use Rattle.run_events.specs.declared.turn.Turn.{Turn}
use Rattle.run_events.specs.declared.outcome.RunOutcome.{RunOutcome}
use Rattle.run_model.specs.declared.entry.Entry.{Entry}
use Rattle.run_model.specs.declared.happening.Happening.{Happening}
use Rattle.run_model.specs.Journal.{past_of}
use Rattle.run_model.specs.Words.{is_over, told}
use Rattle.run_laws.specs.Course.{Ends, GoesOn, IsJournalOf, Stops, refuses_none}
use Rattle.run_engine.specs.declared.errors.TestRunnerBuildError.{TestRunnerBuildError}
use Rattle.run_input.specs.Lines.{lines_of}
use Rattle.run_input.specs.declared.plan_line.RunnerKeys.{RunnerKeys}
use Rattle.run_audit_model.specs.Kept.{KeepsRun}
use Rattle.run_audit_model.specs.Seen.{as_audited}
use Rattle.run_audit_model.specs.declared.audit_event.AuditEvent.{AuditEvent}
use Rattle.run_cli.specs.Call.{Reading, Writing, HasReadFault, HasWriteFault}
use Rattle.run_cli.specs.Cause.{Gets, HasTooMuch, stop_status}
use Rattle.run_cli.specs.Given.{input_limit}
use Rattle.run_cli.specs.Plans.{plan_refusal, settings_for}
use Rattle.run_audit_cli.specs.AuditLines.{IsAuditInput, IsFirstBadAudit}

-- the source has bytes, no more than an input may have, whose lines say a plan, turns and events
pub record HasAudit (left : Option (List ℕ)) (keys : RunnerKeys) (plan : Plan) (turns : List Turn)
    (events : List AuditEvent) : Type 0 where
  pub bytes : List ℕ
  pub told : left ≡ Some bytes
  pub within : length bytes ≤ input_limit
  pub says : IsAuditInput (lines_of bytes) keys plan turns events

-- it has such bytes, and their line of this number is the first bad one
pub record HasBadAudit (left : Option (List ℕ)) (number : ℕ) : Type 0 where
  pub bytes : List ℕ
  pub told : left ≡ Some bytes
  pub within : length bytes ≤ input_limit
  pub bad : IsFirstBadAudit (lines_of bytes) number

-- a history is that of these turns, in which no event is refused, and its run is over
abbrev pub IsOverBy : Settings → List Turn → List Happening → Type 0
IsOverBy p turns past =
    (journal : List Entry) × IsJournalOf p turns refuses_none journal × (past_of p journal ≡ past)
    × (is_over past ≡ true)

-- the status of turns and events: turns that stop, or leave the run unfinished; events that keep the run, or don't,
-- where the verdict could be written, and so those that the run itself told; and where it couldn't
pub record GetsJudged (p : Settings) (turns : List Turn) (events : List AuditEvent) (w : Writing) (status : ℕ)
    : Type 0 where
  pub stops : (place : ℕ) (third : Bool) → Stops p turns refuses_none place third → Gets status (stop_status third)
  pub unfinished : GoesOn p turns refuses_none → Gets status 8
  pub kept : (past : List Happening) → IsOverBy p turns past → KeepsRun p past events → ¬ HasWriteFault w
      → Gets status 0
  pub broken : (past : List Happening) → IsOverBy p turns past → ¬ KeepsRun p past events → ¬ HasWriteFault w
      → Gets status 1
  pub own : (past : List Happening) → IsOverBy p turns past → events ≡ map as_audited (told past)
      → ¬ HasWriteFault w → Gets status 0
  pub unreported : (o : RunOutcome) → Ends p turns refuses_none o → w.faults < w.faults_after → Gets status 9

-- the statuses that there are
abbrev pub audit_statuses : List ℕ
audit_statuses = 0 ∷ 1 ∷ 3 ∷ 5 ∷ 6 ∷ 7 ∷ 8 ∷ 9 ∷ 10 ∷ 11 ∷ 12 ∷ []

-- a source that can't be read gets 10, and no other cause does; too many bytes 12, a bad line 3, and a plan that is
-- refused 5. Turns and events of a plan that is accepted get their status. 9 says that the sink failed, and no status
-- of a verdict is given then
pub record GetsAudited (r : Reading) (w : Writing) (status : ℕ) : Type 0 where
  pub known : Contains audit_statuses status
  pub unread : r.faults < r.faults_after → Gets status 10
  pub read : status ≡ 10 → HasReadFault r
  pub too_much : ¬ HasReadFault r → HasTooMuch r.left → Gets status 12
  pub bad_line : ¬ HasReadFault r → (number : ℕ) → HasBadAudit r.left number → Gets status 3
  pub refused : ¬ HasReadFault r → (keys : RunnerKeys) (plan : Plan) (turns : List Turn) (events : List AuditEvent)
      → HasAudit r.left keys plan turns events → (e : TestRunnerBuildError) → plan_refusal keys plan ≡ Some e
      → Gets status 5
  pub judged : ¬ HasReadFault r → (keys : RunnerKeys) (plan : Plan) (turns : List Turn) (events : List AuditEvent)
      → HasAudit r.left keys plan turns events → plan_refusal keys plan ≡ None
      → GetsJudged (settings_for keys plan) turns events w status
  pub unwritten : status ≡ 9 → HasWriteFault w
  pub written : (status ≡ 0) ⊎ (status ≡ 1) → w.faults_after ≡ w.faults
