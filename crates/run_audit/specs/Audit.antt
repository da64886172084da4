-- What `audit` answers, and where each answer comes.
use Rattle.std.specs.Prelude.{ℕ, ◌≡◌, ◌⊎◌, List, map, Bool, true, false, Result, Ok, Err, ⊤}
use Rattle.std.specs.declared.convert.Infallible.{Infallible}
use Rattle.run_events.specs.declared.settings.Settings.{Settings}
use Rattle.run_events.specs.declared.turn.Turn.{Turn}
use Rattle.run_events.specs.declared.outcome.RunOutcome.{RunOutcome}
use Rattle.run_model.specs.declared.entry.Entry.{Entry}
use Rattle.run_model.specs.Journal.{past_of}
use Rattle.run_model.specs.Words.{is_over, told}
use Rattle.run_laws.specs.Course.{Ends, GoesOn, IsJournalOf, Stops, refuses_none}
use Rattle.run_engine.specs.Execution.{stop_at}
use Rattle.run_engine.specs.declared.errors.TestRunnerExecuteErrors.{TestRunnerExecuteErrors}
use Rattle.run_engine.specs.declared.errors.TestRunnerExecuteErrors.TheVariants.{NotEnabled, OutOfMemory, Report}
use Rattle.run_engine.specs.declared.errors.TestRunnerExecuteErrors.TheVariants.{ThirdSignal, Unfinished}
use Rattle.run_audit_model.specs.Kept.{IsRightVerdict}
use Rattle.run_audit_model.specs.Seen.{as_audited}
use Rattle.run_audit_model.specs.declared.audit_event.AuditEvent.{AuditEvent}
use Rattle.run_audit_model.specs.declared.audit_event.Verdict.{Verdict}
use Rattle.run_audit_model.specs.declared.audit_event.Verdict.TheVariants.{Yes}

-- what `audit` answers
abbrev pub Audited : Type 0
Audited = Result Verdict (TestRunnerExecuteErrors Infallible)

-- the turns have a journal in which no event is refused, whose run is over, and the verdict on the events is right; so
-- the events that this run itself told keep it
pub record IsVerdictOn (p : Settings) (turns : List Turn) (events : List AuditEvent) (verdict : Verdict) : Type 0 where
  pub journal : List Entry
  pub is : IsJournalOf p turns refuses_none journal
  pub over : is_over (past_of p journal) ≡ true
  pub right : IsRightVerdict p (past_of p journal) events verdict
  pub own : events ≡ map as_audited (told (past_of p journal)) → verdict ≡ Yes

-- what each answer says of the turns and the events
abbrev pub SaysAudit : Settings → List Turn → List AuditEvent → Audited → Type 0
SaysAudit p turns events (Ok verdict) = IsVerdictOn p turns events verdict
SaysAudit p turns events (Err (NotEnabled place)) = Stops p turns refuses_none place false
SaysAudit p turns events (Err (ThirdSignal place)) = Stops p turns refuses_none place true
SaysAudit p turns events (Err Unfinished) = GoesOn p turns refuses_none
SaysAudit p turns events (Err (Report error)) = ⊥
SaysAudit p turns events (Err OutOfMemory) = ⊤

-- what each course of the turns is answered, unless memory is wanting: turns that stop, that leave the run unfinished,
-- and that end it
pub record AnswersAudit (p : Settings) (turns : List Turn) (answer : Audited) : Type 0 where
  pub stops : (place : ℕ) (third : Bool) → Stops p turns refuses_none place third
      → (answer ≡ Err (stop_at place third)) ⊎ (answer ≡ Err OutOfMemory)
  pub unfinished : GoesOn p turns refuses_none → (answer ≡ Err Unfinished) ⊎ (answer ≡ Err OutOfMemory)
  pub ended : (outcome : RunOutcome) → Ends p turns refuses_none outcome
      → ((verdict : Verdict) × (answer ≡ Ok verdict)) ⊎ (answer ≡ Err OutOfMemory)
