-- An audit of what a replay wrote gets yes.
use Rattle.std.proofs.Common.{◌≡◌, ◌∙◌, ℕ, List, [], ◌∷◌, map, length, codes, Bool, true, false, Option, Some, None, Ok}
use Rattle.std.proofs.Common.{inl, inr, if◌then◌else◌, refl, sym, ap, subst, arith}
use Rattle.run_events.specs.declared.outcome.RunOutcome.{RunOutcome}
use Rattle.run_events.specs.declared.settings.Settings.{Settings}
use Rattle.run_model.specs.Journal.{outcome}
use Rattle.run_model.specs.Words.{is_over, told}
use Rattle.run_laws.specs.Course.{IsJournalOf, refuses_none}
use Rattle.run_laws.proofs.board.Courses.{unrefused}
use Rattle.run_input.specs.Lines.{lines_of}
use Rattle.run_output.specs.Faults.{fault_status}
use Rattle.run_output.specs.Fields.{line_bytes}
use Rattle.run_output.specs.declared.fault.Fault.{Fault}
use Rattle.run_output.specs.declared.fault.Fault.TheVariants as faults
use Rattle.run_audit_model.specs.Seen.{as_audited}
use Rattle.run_audit_model.specs.declared.audit_event.Verdict.{Verdict}
use Rattle.run_audit_model.specs.declared.audit_event.Verdict.TheVariants.{Yes, No}
use Rattle.run_cli.specs.Call.{Call, Reading, Writing, HasReadFault, HasTaken, HasWriteFault}
use Rattle.run_cli.specs.Commands.{IsNamedBy, form_of}
use Rattle.run_cli.specs.Ending.{history_in, settings_in}
use Rattle.run_cli.specs.Status.{Headline}
use Rattle.run_cli.specs.Text.{Form, history_text, whole_form}
use Rattle.run_cli.specs.declared.command.Command.{Command}
use Rattle.run_cli.specs.declared.command.Command.TheVariants.{Replay, Progress}
use Rattle.run_audit_cli.specs.AuditCauses.{HasAudit}
use Rattle.run_audit_cli.specs.AuditEnds.{EndsWithVerdict}
use Rattle.run_audit_cli.specs.AuditGiven.{AnswersAuditor}
use Rattle.run_audit_cli.specs.AuditLines.{IsAuditInput, events_said}
use Rattle.run_audit_cli.specs.Verdicts.{verdict_line_text}
use Rattle.run_laws_audit_text.specs.Replayed.{Audits, GetsYes, GivesTextOf, HasPlainLines, audit_lines, written_by}
use Rattle.run_laws_audit_text.proofs.TextLemmas.{input_read, text_said}

-- the words `replay` name the command that writes each line
whole : (command : Command) (words : List (List ℕ)) (p : Settings) → IsNamedBy command words
    → words ≡ codes "replay" ∷ [] → form_of command p ≡ whole_form
whole Replay words p named is = refl
whole (Progress width) words p named is =
    let two : length words ≡ 2 = ap length named.1 in
    let one : length words ≡ 1 = ap length is in
    absurd (omega (arith, two, one))

-- a run with an outcome is over
over_by : (b : Bool) (o : Option RunOutcome) (u : RunOutcome) → (if b then o else None) ≡ Some u → b ≡ true
over_by true o u is = refl
over_by false o u is = absurd cc

-- the journal of such a replay
own_journal : (c : Call) (replayed : ℕ) (h : Headline c replayed) → ¬ HasWriteFault c.sink
    → IsJournalOf (settings_in h.run) h.run.turns refuses_none h.run.journal
own_journal c replayed h sound = record {
  legal = h.run.legal;
  takes = h.whole.all;
  answers = unrefused h.run.journal (h.run.tied sound);
}

-- its source gives an audit of what the run told
own_audit : (c : Call) (replayed : ℕ) (h : Headline c replayed) → c.words ≡ codes "replay" ∷ []
    → HasPlainLines (history_in h.run) → (r : Reading) → GivesTextOf h r
    → HasAudit r.left h.run.keys h.run.plan h.run.turns (map as_audited (told (history_in h.run)))
own_audit c replayed h word plain r gives =
    let run = h.run in
    let events = map as_audited (told (history_in run)) in
    let form : form_of run.command (settings_in run) ≡ whole_form =
    whole run.command c.words (settings_in run) run.named word in
    let says : IsAuditInput (audit_lines (lines_of run.given.bytes) (written_by h)) run.keys run.plan run.turns events =
    input_read (lines_of run.given.bytes) run.keys run.plan run.turns (written_by h) events run.given.says
    (ap (λ (f : Form). events_said (lines_of (history_text f (history_in run) (Ok h.outcome)))) form
    ∙ text_said (settings_in run) run.journal h.outcome run.legal plain) in
    record {
      bytes = gives.bytes;
      told = gives.told;
      within = gives.within;
      says = subst (λ lines. IsAuditInput lines run.keys run.plan run.turns events) (sym gives.lines) says;
    }

-- no fault has the status of yes
fault_above : (fault : Fault) → fault_status fault ≡ 0 → ⊥
fault_above faults.Words is = omega (arith, is)
fault_above (faults.Line line) is = omega (arith, is)
fault_above (faults.Plan plan) is = omega (arith, is)
fault_above (faults.NotEnabled turn) is = omega (arith, is)
fault_above (faults.ThirdSignal turn) is = omega (arith, is)
fault_above faults.Unfinished is = omega (arith, is)
fault_above faults.Report is = omega (arith, is)
fault_above faults.Read is = omega (arith, is)
fault_above faults.Memory is = omega (arith, is)
fault_above faults.TooLong is = omega (arith, is)

-- with that status the line that says yes was written
verdict_yes : (w : Writing) (verdict : Verdict) (status : ℕ) → EndsWithVerdict w verdict status → status ≡ 0
    → HasTaken w (line_bytes (verdict_line_text Yes))
verdict_yes w Yes status (inl ends) is = ends.1
verdict_yes w (No law place) status (inl ends) is =
    let one : status ≡ 1 = ends.0 in
    absurd (omega (arith, one, is))
verdict_yes w verdict status (inr (inl ends)) is =
    let nine : status ≡ 9 = ends.0 in
    absurd (omega (arith, nine, is))
verdict_yes w verdict status (inr (inr ends)) is =
    let eleven : status ≡ 11 = ends.0 in
    absurd (omega (arith, eleven, is))

yes_line : (r : Reading) (w : Writing) (status : ℕ) → AnswersAuditor r w status → status ≡ 0
    → HasTaken w (line_bytes (verdict_line_text Yes))
yes_line r w status (inl (verdict, has, ends)) is = verdict_yes w verdict status ends is
yes_line r w status (inr (fault, why, (said, same, ends))) is = absurd (fault_above said (sym same ∙ is))

pub gets_yes : (c : Call) (replayed : ℕ) (h : Headline c replayed) → c.words ≡ codes "replay" ∷ []
    → ¬ HasWriteFault c.sink → HasPlainLines (history_in h.run) → (r : Reading) (w : Writing) (status : ℕ)
    → GivesTextOf h r → ¬ HasReadFault r → Audits r w status → GetsYes w status
gets_yes c replayed h word sound plain r w status gives still audits =
    let run = h.run in
    let journal : IsJournalOf (settings_in run) run.turns refuses_none run.journal = own_journal c replayed h sound in
    let judged =
    audits.1.judged still run.keys run.plan run.turns (map as_audited (told (history_in run)))
    (own_audit c replayed h word plain r gives) run.accepted in
    record {
      yes = judged.own (history_in run)
          (run.journal, journal, refl, over_by (is_over (history_in run)) _ h.outcome h.whole.finished.over) refl;
      line = yes_line r w status audits.0;
      unwritten = judged.unreported h.outcome (run.journal, journal, h.whole.finished.over);
    }
