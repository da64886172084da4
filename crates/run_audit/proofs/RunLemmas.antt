-- What carrying out the turns of a run says of it, and of an audit of it.
use Rattle.std.proofs.Common.{◌≡◌, ◌∙◌, ℕ, ◌≤◌, ◌⊎◌, inl, inr, List, [], ◌∷◌, ◌++◌, map, zip, reverse, take, Bool, true}
use Rattle.std.proofs.Common.{false, if◌then◌else◌, Option, Some, None, is_none, Result, Ok, Err, refl, sym, ap, subst}
use Rattle.std.proofs.Common.{arith}
use Rattle.std.specs.declared.convert.Infallible.{Infallible}
use Rattle.std.specs.List.{All}
use Rattle.std.proofs.lemmas.List.{map-append}
use Rattle.std.proofs.lemmas.Slice.Zip.{firsts-zip}
use Rattle.run_capture.specs.Faults.{Rose}
use Rattle.run_events.specs.declared.ask.Ask.{Ask}
use Rattle.run_events.specs.declared.settings.Settings.{Settings}
use Rattle.run_events.specs.declared.turn.Turn.{Turn}
use Rattle.run_events.specs.declared.outcome.RunOutcome.{RunOutcome}
use Rattle.run_events.specs.declared.events.ReporterEvent.{ReporterEvent}
use Rattle.run_model.specs.declared.entry.Entry.{Entry}
use Rattle.run_model.specs.declared.happening.Happening.{Happening}
use Rattle.run_model.specs.Journal.{history, past_of, IsLegalBackward, outcome}
use Rattle.run_model.specs.Once.{HasEachIdOnce}
use Rattle.run_model.specs.SubRuns.{outcome_in}
use Rattle.run_model.specs.Turns.{happening}
use Rattle.run_model.specs.Words.{answers, ended_runs, events_in, is_over, told}
use Rattle.run_laws.specs.Course.{AreAnswersOf, IsJournalOf, none_refused, refuses_none, turns_of}
use Rattle.run_laws.proofs.board.Courses.{unrefused}
use Rattle.run_engine.specs.World.{CountsErrors, Outside, flagged, outside}
use Rattle.run_engine.specs.Execution.{AnswersCourse, Carries, Executes, UnlessMemory, stop_at}
use Rattle.run_engine.specs.declared.errors.TestRunnerExecuteErrors.{TestRunnerExecuteErrors}
use Rattle.run_engine.specs.declared.errors.TestRunnerExecuteErrors.TheVariants.{NotEnabled, OutOfMemory, Report}
use Rattle.run_engine.specs.declared.errors.TestRunnerExecuteErrors.TheVariants.{ThirdSignal, Unfinished}
use Rattle.run_audit_model.specs.Kept.{IsRightVerdict, KeepsLaw}
use Rattle.run_audit_model.specs.Seen.{as_audited}
use Rattle.run_audit_model.specs.declared.audit_event.AuditEvent.{AuditEvent}
use Rattle.run_audit_model.specs.declared.audit_event.Verdict.{Verdict}
use Rattle.run_audit_model.specs.declared.audit_event.Verdict.TheVariants.{No, Yes}
use Rattle.run_laws_audit.specs.Plain.{HasPlainStatus}
use Rattle.run_laws_audit.proofs.AllKept.{told_is_kept}
use Rattle.run_audit.specs.Audit.{AnswersAudit, Audited, SaysAudit}
use Rattle.run_audit.specs.Needs.{AreNeedsOf, HasToldAll}
use Rattle.run_audit.specs.Stops.{IsLimitStop, IsRightBy}
use Rattle.run_audit.specs.declared.needs.Needs.{Needs}

-- the answers of a legal journal are to the events that it told
answered_told : (p : Settings) (backward : List Entry) → IsLegalBackward p backward
    → map (λ x. x.0) (answers (history p backward)) ≡ told (history p backward)
answered_told p [] legal = refl
answered_told p (e ∷ before) legal =
    let x : Happening = happening p (history p before) e in
    map-append (λ x. x.0) (answers (history p before)) (zip (events_in x) x.refused)
    ∙ ap (λ es. es ++ map (λ x. x.0) (zip (events_in x) x.refused)) (answered_told p before legal.2)
    ∙ ap (λ es. told (history p before) ++ es) (firsts-zip (events_in x) e.refused legal.1)

-- the marks of events leave the events
firsts_flagged : {E : Type 0} (ys : List (ReporterEvent × Option E))
    → map (λ x. x.0) (map flagged ys) ≡ map (λ y. y.0) ys
firsts_flagged [] = refl
firsts_flagged (y ∷ ys) = ap (λ zs. y.0 ∷ zs) (firsts_flagged ys)

-- a count of faults that stays 0 didn't rise
no_rise : ¬ Rose 0 0
no_rise rose = let one : 1 ≤ 0 = rose in omega (arith, one)

-- so nothing was refused
none_failed : {E : Type 0} (journal : List Entry) (refusal : Option E) → is_none refusal ≡ none_refused journal
    → CountsErrors 0 0 refusal → AreAnswersOf refuses_none journal
none_failed journal None marked counted = unrefused journal (sym marked)
none_failed journal (Some e) marked counted = absurd (no_rise counted.1)

-- what a log tells, and the outside of a run with a log
abbrev logs : List ReporterEvent → List (ReporterEvent × Option Infallible) → Type 0
logs log xs = log ≡ map (λ x. x.0) xs

abbrev logged : {C : Type 0} → List ReporterEvent → List ReporterEvent → C → C → Outside (List ReporterEvent) C
logged before log children children_after = outside (λ log. 0) before log children children_after

-- a run with an outcome is over
over_of : (p : Settings) (past : List Happening) (u : RunOutcome) → outcome p past ≡ Some u → is_over past ≡ true
over_of p past u is = by_over (is_over past) refl
  where
    by_over : (b : Bool) → is_over past ≡ b → b ≡ true
    by_over true over = refl
    by_over false over =
        let none : None ≡ Some u = sym (ap (λ b. if b then outcome_in p (ended_runs past) else None) over) ∙ is in cc

-- the journal of turns that were all taken
journal_of : {C : Type 0} (asks : C → List (ℕ × Ask) → Type 0) (before log : List ReporterEvent) (a b : C)
    (p : Settings)
    (turns : List Turn) (answer : Result RunOutcome (TestRunnerExecuteErrors Infallible))
    (x : Carries {E = Infallible} logs asks (logged before log a b) p turns answer) (taken : List Turn)
    → turns_of x.journal ≡ taken → IsJournalOf p taken refuses_none x.journal
journal_of asks before log a b p turns answer x taken takes = record {
  legal = x.takes.runnable.legal;
  takes = takes;
  answers = none_failed x.journal x.refusal x.takes.marked x.takes.counted;
}

-- what a run that is over has told stands in its log
told_all : {C : Type 0} (asks : C → List (ℕ × Ask) → Type 0) (before log : List ReporterEvent) (a b : C) (p : Settings)
    (turns : List Turn) (u : RunOutcome) (x : Carries {E = Infallible} logs asks (logged before log a b) p turns (Ok u))
    → before ≡ [] → HasToldAll p x.journal log
told_all asks before log a b p turns u x fresh =
    let heard = x.takes.told [] fresh in
    record {
      legal = x.takes.runnable.legal;
      over = over_of p (past_of p x.journal) u x.says.1;
      is = heard.1 ∙ sym (firsts_flagged heard.0) ∙ ap (map (λ x. x.0)) heard.2
          ∙ answered_told p (reverse x.journal) x.takes.runnable.legal;
    }

-- what a run itself told, with plain statuses, keeps it, so no other verdict is right
own_kept : (p : Settings) (journal : List Entry) (log : List ReporterEvent) (events : List AuditEvent)
    (verdict : Verdict) → HasEachIdOnce p → HasToldAll p journal log → All HasPlainStatus log
    → IsRightVerdict p (past_of p journal) events verdict → events ≡ map as_audited (told (past_of p journal))
    → verdict ≡ Yes
own_kept p journal log events Yes once has plain right is = refl
own_kept p journal log events (No law place) once has plain right is =
    absurd (right.2.missing (subst (KeepsLaw p (past_of p journal) law) (sym is)
    (told_is_kept p (reverse journal) once has.legal has.over (subst (All HasPlainStatus) has.is plain) law)))

-- a verdict by what was told says so of the turns
pub says_verdict : {C : Type 0} (asks : C → List (ℕ × Ask) → Type 0) (before log : List ReporterEvent) (a b : C)
    (p : Settings) (turns : List Turn) (events : List AuditEvent) (needs : Needs) (limit : Option ℕ) (verdict : Verdict)
    (u : RunOutcome) → Executes {E = Infallible} logs asks (logged before log a b) p turns (Ok u) → before ≡ []
    → AreNeedsOf p needs → IsLimitStop p events limit → (told : List ReporterEvent) → told ≡ log
    → All HasPlainStatus told → IsRightBy needs limit told events verdict → SaysAudit p turns events (Ok verdict)
says_verdict asks before log a b p turns events needs limit verdict u x fresh of stops told is plain right =
    let has = subst (HasToldAll p x.call.journal) (sym is) (told_all asks before log a b p turns u x.call fresh) in
    let verdict_right = right p x.call.journal of stops has in
    record {
      journal = x.call.journal;
      is = journal_of asks before log a b p turns (Ok u) x.call turns x.call.says.0;
      over = has.over;
      right = verdict_right;
      own = own_kept p x.call.journal told events verdict of.once has plain verdict_right;
    }

-- any other answer
pub says_error : {C : Type 0} (asks : C → List (ℕ × Ask) → Type 0) (before log : List ReporterEvent) (a b : C)
    (p : Settings) (turns : List Turn) (events : List AuditEvent) (error : TestRunnerExecuteErrors Infallible)
    → UnlessMemory (Err error) (Executes {E = Infallible} logs asks (logged before log a b) p turns (Err error))
    → SaysAudit p turns events (Err error)
says_error asks before log a b p turns events (NotEnabled i) x = (
  x.call.journal,
  journal_of asks before log a b p turns (Err (NotEnabled i)) x.call (take i turns) x.call.says.0,
  x.call.says.1,
)
says_error asks before log a b p turns events (ThirdSignal i) x = (
  x.call.journal,
  journal_of asks before log a b p turns (Err (ThirdSignal i)) x.call (take i turns) x.call.says.0,
  x.call.says.1,
)
says_error asks before log a b p turns events Unfinished x = (
  x.call.journal,
  journal_of asks before log a b p turns (Err Unfinished) x.call turns x.call.says.0,
  x.call.says.1,
)
says_error asks before log a b p turns events (Report e) x = refused x.call.refusal x.call.says.2 x.call.takes.counted
  where
    refused : (o : Option Infallible) → o ≡ Some e → CountsErrors 0 0 o → ⊥
    refused None is counted = cc
    refused (Some d) is counted = no_rise counted.1
says_error asks before log a b p turns events OutOfMemory x = tt

-- what the course of turns is answered: by a verdict, by the error of the turns, and where memory was wanting
pub gets_verdict : {C : Type 0} (before log : List ReporterEvent) (a b : C) (p : Settings)
    (turns : List Turn)
    (verdict : Verdict) (u : RunOutcome) → AnswersCourse {E = Infallible} (logged before log a b) p turns
    refuses_none (Ok u)
    → AnswersAudit p turns (Ok verdict)
gets_verdict before log a b p turns verdict u course = record {
  stops = λ place third stops. other (Ok verdict) (stop_at place third) (course.stops place third stops);
  unfinished = λ goes. other (Ok verdict) Unfinished (course.unfinished goes);
  ended = λ outcome ends. inl (verdict, refl);
}
  where
    other : (answer : Audited) (error : TestRunnerExecuteErrors Infallible)
        → ◌≡◌ {A = Result RunOutcome (TestRunnerExecuteErrors Infallible)} (Ok u) (Err error)
        ⊎ ◌≡◌ {A = Result RunOutcome (TestRunnerExecuteErrors Infallible)} (Ok u) (Err OutOfMemory)
        → (answer ≡ Err error) ⊎ (answer ≡ Err OutOfMemory)
    other answer error (inl is) = cc
    other answer error (inr is) = cc

pub gets_error : {C : Type 0} (before log : List ReporterEvent) (a b : C) (p : Settings) (turns : List Turn)
    (error : TestRunnerExecuteErrors Infallible)
    → AnswersCourse {E = Infallible} (logged before log a b) p turns refuses_none (Err error)
    → AnswersAudit p turns (Err error)
gets_error before log a b p turns error course = record {
  stops = λ place third stops. same (stop_at place third) (course.stops place third stops);
  unfinished = λ goes. same Unfinished (course.unfinished goes);
  ended = λ outcome ends. none outcome (course.ended outcome ends no_rise);
}
  where
    same : (other : TestRunnerExecuteErrors Infallible)
        → ◌≡◌ {A = Result RunOutcome (TestRunnerExecuteErrors Infallible)} (Err error) (Err other)
        ⊎ ◌≡◌ {A = Result RunOutcome (TestRunnerExecuteErrors Infallible)} (Err error) (Err OutOfMemory)
        → ◌≡◌ {A = Audited} (Err error) (Err other) ⊎ ◌≡◌ {A = Audited} (Err error) (Err OutOfMemory)
    same other (inl is) = let one : error ≡ other = cc in inl (ap Err one)
    same other (inr is) = let one : error ≡ OutOfMemory = cc in inr (ap Err one)

    none : (outcome : RunOutcome)
        → ◌≡◌ {A = Result RunOutcome (TestRunnerExecuteErrors Infallible)} (Err error) (Ok outcome)
        ⊎ ◌≡◌ {A = Result RunOutcome (TestRunnerExecuteErrors Infallible)} (Err error) (Err OutOfMemory)
        → ((verdict : Verdict) × ◌≡◌ {A = Audited} (Err error) (Ok verdict))
        ⊎ ◌≡◌ {A = Audited} (Err error) (Err OutOfMemory)
    none outcome (inl is) = cc
    none outcome (inr is) = let one : error ≡ OutOfMemory = cc in inr (ap Err one)

pub gets_memory : (p : Settings) (turns : List Turn) → AnswersAudit p turns (Err OutOfMemory)
gets_memory p turns = record {
  stops = λ place third stops. inr refl;
  unfinished = λ goes. inr refl;
  ended = λ outcome ends. inr refl;
}
