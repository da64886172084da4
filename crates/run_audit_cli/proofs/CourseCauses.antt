-- Each course of turns, and each verdict on events, gives its status.
use Rattle.std.proofs.Common.{◌≡◌, ◌∙◌, ℕ, ◌<◌, ◌≤◌, ◌⊎◌, inl, inr, List, map, Bool, true, false}
use Rattle.std.proofs.Common.{refl, sym, ap, subst, arith}
use Rattle.run_events.specs.declared.outcome.RunOutcome.{RunOutcome}
use Rattle.run_events.specs.declared.settings.Settings.{Settings}
use Rattle.run_events.specs.declared.turn.Turn.{Turn}
use Rattle.run_model.specs.declared.entry.Entry.{Entry}
use Rattle.run_model.specs.declared.happening.Happening.{Happening}
use Rattle.run_model.specs.Journal.{past_of}
use Rattle.run_model.specs.Words.{is_over, told}
use Rattle.run_laws.specs.Course.{Ends, GoesOn, HasOneCourse, Stops, refuses_none}
use Rattle.run_laws.proofs.board.Courses.{one_course}
use Rattle.run_engine.proofs.OutcomeLemmas.{has_outcome}
use Rattle.run_audit_model.specs.Kept.{KeepsRun}
use Rattle.run_audit_model.specs.Seen.{as_audited}
use Rattle.run_audit_model.specs.declared.audit_event.AuditEvent.{AuditEvent}
use Rattle.run_audit_model.specs.declared.audit_event.Verdict.{Verdict}
use Rattle.run_audit_model.specs.declared.audit_event.Verdict.TheVariants.{Yes, No}
use Rattle.run_audit.specs.Audit.{IsVerdictOn}
use Rattle.run_cli.specs.Call.{Writing, HasWriteFault}
use Rattle.run_cli.specs.Cause.{Gets, stop_status}
use Rattle.run_audit_cli.specs.AuditCauses.{GetsJudged, IsOverBy}
use Rattle.run_audit_cli.specs.Verdicts.{audit_status}

-- turns by which a run is over end it
over_ends : (p : Settings) (ts : List Turn) (past : List Happening) → IsOverBy p ts past
    → (o : RunOutcome) × Ends p ts refuses_none o
over_ends p ts past (journal, is, same, over) =
    let end = has_outcome p journal is.legal (subst (λ h. is_over h ≡ true) (sym same) over) in
    (end.0, (journal, is, end.1))

verdict_ends : (p : Settings) (ts : List Turn) (es : List AuditEvent) (verdict : Verdict)
    → IsVerdictOn p ts es verdict → (o : RunOutcome) × Ends p ts refuses_none o
verdict_ends p ts es verdict x = over_ends p ts (past_of p x.journal) (x.journal, x.is, refl, x.over)

pub stop_gets : (p : Settings) (ts : List Turn) (es : List AuditEvent) (w : Writing) (status place : ℕ) (third : Bool)
    → Stops p ts refuses_none place third → Gets status (stop_status third) → GetsJudged p ts es w status
stop_gets p ts es w status place third stops gets =
    let one : HasOneCourse p ts refuses_none = one_course p ts refuses_none in
    record {
      stops = λ at kind also.
          subst (λ b. Gets status (stop_status b)) (one.one_stop place at third kind stops also).1 gets;
      unfinished = λ going. absurd (one.stop_or_unfinished place third stops going);
      kept = λ past over keeps quiet.
          let end = over_ends p ts past over in absurd (one.stop_or_end place third end.0 stops end.1);
      broken = λ past over breaks quiet.
          let end = over_ends p ts past over in absurd (one.stop_or_end place third end.0 stops end.1);
      own = λ past over told_so quiet.
          let end = over_ends p ts past over in absurd (one.stop_or_end place third end.0 stops end.1);
      unreported = λ o ends rose. absurd (one.stop_or_end place third o stops ends);
    }

pub going_gets : (p : Settings) (ts : List Turn) (es : List AuditEvent) (w : Writing) (status : ℕ)
    → GoesOn p ts refuses_none → Gets status 8 → GetsJudged p ts es w status
going_gets p ts es w status going gets =
    let one : HasOneCourse p ts refuses_none = one_course p ts refuses_none in
    record {
      stops = λ place third stops. absurd (one.stop_or_unfinished place third stops going);
      unfinished = λ _. gets;
      kept = λ past over keeps quiet.
          let end = over_ends p ts past over in absurd (one.unfinished_or_end end.0 going end.1);
      broken = λ past over breaks quiet.
          let end = over_ends p ts past over in absurd (one.unfinished_or_end end.0 going end.1);
      own = λ past over told_so quiet.
          let end = over_ends p ts past over in absurd (one.unfinished_or_end end.0 going end.1);
      unreported = λ o ends rose. absurd (one.unfinished_or_end o going ends);
    }

-- with no memory any status is right
pub eleven_gets : (p : Settings) (ts : List Turn) (es : List AuditEvent) (w : Writing) (status : ℕ) → status ≡ 11
    → GetsJudged p ts es w status
eleven_gets p ts es w status is = record {
  stops = λ place third stops. inr is;
  unfinished = λ going. inr is;
  kept = λ past over keeps quiet. inr is;
  broken = λ past over breaks quiet. inr is;
  own = λ past over told_so quiet. inr is;
  unreported = λ o ends rose. inr is;
}

-- a run that ended has one history
same_past : (p : Settings) (ts : List Turn) (es : List AuditEvent) (verdict : Verdict) (past : List Happening)
    → (x : IsVerdictOn p ts es verdict) → IsOverBy p ts past → past ≡ past_of p x.journal
same_past p ts es verdict past x (journal, is, same, over) =
    let one : HasOneCourse p ts refuses_none = one_course p ts refuses_none in
    sym same ∙ ap (past_of p) (one.one_journal x.journal journal x.is is)

kept_gets : (p : Settings) (ts : List Turn) (es : List AuditEvent) (verdict : Verdict) (status : ℕ)
    → (x : IsVerdictOn p ts es verdict) → KeepsRun p (past_of p x.journal) es → status ≡ audit_status verdict
    → Gets status 0
kept_gets p ts es Yes status x keeps is = inl is
kept_gets p ts es (No law place) status x keeps is = absurd (x.right.2.missing (keeps law))

broken_gets : (p : Settings) (ts : List Turn) (es : List AuditEvent) (verdict : Verdict) (status : ℕ)
    → (x : IsVerdictOn p ts es verdict) → ¬ KeepsRun p (past_of p x.journal) es → status ≡ audit_status verdict
    → Gets status 1
broken_gets p ts es Yes status x breaks is = absurd (breaks x.right)
broken_gets p ts es (No law place) status x breaks is = inl is

-- a verdict that was written
pub said_gets : (p : Settings) (ts : List Turn) (es : List AuditEvent) (w : Writing) (verdict : Verdict) (status : ℕ)
    → IsVerdictOn p ts es verdict → status ≡ audit_status verdict → w.faults_after ≡ w.faults
    → GetsJudged p ts es w status
said_gets p ts es w verdict status x is calm =
    let one : HasOneCourse p ts refuses_none = one_course p ts refuses_none in
    let end = verdict_ends p ts es verdict x in
    record {
      stops = λ place third stops. absurd (one.stop_or_end place third end.0 stops end.1);
      unfinished = λ going. absurd (one.unfinished_or_end end.0 going end.1);
      kept = λ past over keeps quiet.
          kept_gets p ts es verdict status x
          (subst (λ h. KeepsRun p h es) (same_past p ts es verdict past x over) keeps) is;
      broken = λ past over breaks quiet.
          broken_gets p ts es verdict status x
          (λ keeps. breaks (subst (λ h. KeepsRun p h es) (sym (same_past p ts es verdict past x over)) keeps)) is;
      own = λ past over told_so quiet.
          let same = same_past p ts es verdict past x over in
          inl (is ∙ ap audit_status (x.own (told_so ∙ ap (λ h. map as_audited (told h)) same)));
      unreported = λ o ends rose. absurd (omega (arith, rose, calm));
    }

-- one that wasn't, since the sink failed
pub unsaid_gets : (p : Settings) (ts : List Turn) (es : List AuditEvent) (w : Writing) (verdict : Verdict) (status : ℕ)
    → IsVerdictOn p ts es verdict → status ≡ 9 → HasWriteFault w → GetsJudged p ts es w status
unsaid_gets p ts es w verdict status x is rose =
    let one : HasOneCourse p ts refuses_none = one_course p ts refuses_none in
    let end = verdict_ends p ts es verdict x in
    record {
      stops = λ place third stops. absurd (one.stop_or_end place third end.0 stops end.1);
      unfinished = λ going. absurd (one.unfinished_or_end end.0 going end.1);
      kept = λ past over keeps quiet. absurd (quiet rose);
      broken = λ past over breaks quiet. absurd (quiet rose);
      own = λ past over told_so quiet. absurd (quiet rose);
      unreported = λ o ends more. inl is;
    }
