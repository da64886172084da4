-- What the source gives, and what the program of audits answers to it.
use Rattle.std.specs.Prelude.{ℕ, ◌≡◌, ◌⊎◌, List, [], ◌∷◌, ⊤, true, false, None, Result, Ok, Err, codes}
use Rattle.run_events.specs.declared.plan.Plan.{Plan}
use Rattle.run_events.specs.declared.settings.Settings.{Settings}
use Rattle.run_events.specs.declared.turn.Turn.{Turn}
use Rattle.run_laws.specs.Course.{GoesOn, Stops, refuses_none}
use Rattle.run_input.specs.Lines.{lines_of}
use Rattle.run_input.specs.declared.errors.InputError.{InputError}
use Rattle.run_input.specs.declared.errors.InputError.TheVariants as input
use Rattle.run_input.specs.declared.plan_line.RunnerKeys.{RunnerKeys}
use Rattle.run_output.specs.declared.fault.Fault.{Fault}
use Rattle.run_output.specs.declared.fault.Fault.TheVariants.{Line, Plan as BadPlan, NotEnabled, ThirdSignal}
use Rattle.run_output.specs.declared.fault.Fault.TheVariants.{Unfinished, Read, Memory, TooLong}
use Rattle.run_audit_model.specs.declared.audit_event.AuditEvent.{AuditEvent}
use Rattle.run_audit_model.specs.declared.audit_event.Verdict.{Verdict}
use Rattle.run_audit.specs.Audit.{IsVerdictOn}
use Rattle.run_cli.specs.Call.{Reading, Writing, HasReadFault}
use Rattle.run_cli.specs.Given.{IsAllOf, IsTooLong, IsWithin}
use Rattle.run_cli.specs.Plans.{IsPlanFault, plan_refusal, settings_for}
use Rattle.run_audit_cli.specs.AuditEnds.{EndsWithFault, EndsWithVerdict}
use Rattle.run_audit_cli.specs.AuditLines.{IsAuditInput, IsFirstBadAudit}

-- the fault that an error of reading lines is
abbrev pub audit_line_fault : InputError → Fault
audit_line_fault (input.Line number) = Line number
audit_line_fault input.OutOfMemory = Memory

-- the one word of the program
abbrev pub IsAuditWord : List (List ℕ) → Type 0
IsAuditWord words = words ≡ codes "audit" ∷ []

-- the source was read to its end and didn't fail, and its lines say a plan, turns and events
pub record GivesAudit (r : Reading) (keys : RunnerKeys) (plan : Plan) (turns : List Turn) (events : List AuditEvent)
    : Type 0 where
  pub bytes : List ℕ
  pub all : IsAllOf r bytes
  pub calm : r.faults_after ≡ r.faults
  pub says : IsAuditInput (lines_of bytes) keys plan turns events

-- it was read so, and its line of this number is the first bad one
pub record GivesBadLine (r : Reading) (number : ℕ) : Type 0 where
  pub bytes : List ℕ
  pub all : IsAllOf r bytes
  pub calm : r.faults_after ≡ r.faults
  pub bad : IsFirstBadAudit (lines_of bytes) number

-- it gives a plan that is accepted, whose settings these are, with turns and events
pub record GivesAccepted (r : Reading) (p : Settings) (turns : List Turn) (events : List AuditEvent) : Type 0 where
  pub keys : RunnerKeys
  pub plan : Plan
  pub given : GivesAudit r keys plan turns events
  pub accepted : plan_refusal keys plan ≡ None
  pub settings : p ≡ settings_for keys plan

-- the verdict on what it gives: the turns have a journal in which no event is refused, whose run is over, and the
-- verdict on the events is right
abbrev pub HasVerdict : Reading → Verdict → Type 0
HasVerdict r verdict =
    (p : Settings) × (turns : List Turn) × (events : List AuditEvent) × GivesAccepted r p turns events
    × IsVerdictOn p turns events verdict

-- what it gives has turns of which this holds, by the settings of its plan
abbrev pub HasTurnsThat : Reading → (Settings → List Turn → Type 0) → Type 0
HasTurnsThat r Holds =
    (p : Settings) × (turns : List Turn) × (events : List AuditEvent) × GivesAccepted r p turns events × Holds p turns

-- why there is no verdict: the source failed, or gave too much; a line is the first bad one; the plan is refused; the
-- turns, in which no event is refused, stop at one that isn't enabled, or leave the run unfinished; want of memory says
-- nothing
abbrev pub IsAuditFault : Reading → Fault → Type 0
IsAuditFault r Read = IsWithin r × HasReadFault r
IsAuditFault r TooLong = IsTooLong r × (r.faults_after ≡ r.faults)
IsAuditFault r Memory = r.faults_after ≡ r.faults
IsAuditFault r (Line number) = GivesBadLine r number
IsAuditFault r (BadPlan fault) =
    (keys : RunnerKeys) × (plan : Plan) × (turns : List Turn) × (events : List AuditEvent)
    × GivesAudit r keys plan turns events × IsPlanFault keys plan fault
IsAuditFault r (NotEnabled place) = HasTurnsThat r (λ p turns. Stops p turns refuses_none place false)
IsAuditFault r (ThirdSignal place) = HasTurnsThat r (λ p turns. Stops p turns refuses_none place true)
IsAuditFault r Unfinished = HasTurnsThat r (λ p turns. GoesOn p turns refuses_none)
IsAuditFault r _ = ⊥

-- what is found of a source: the verdict on what it gives, or why there is none
abbrev pub FindsVerdict : Reading → Result Verdict Fault → Type 0
FindsVerdict r (Ok verdict) = HasVerdict r verdict
FindsVerdict r (Err fault) = IsAuditFault r fault

-- the verdict on what the source gives was written, or the fault for which there is none
abbrev pub AnswersAuditor : Reading → Writing → ℕ → Type 0
AnswersAuditor r w status =
    ((verdict : Verdict) × HasVerdict r verdict × EndsWithVerdict w verdict status)
    ⊎ ((fault : Fault) × IsAuditFault r fault × EndsWithFault w fault status)
