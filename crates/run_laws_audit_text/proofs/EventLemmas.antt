-- The line of an event has neither of the keys `ask` and `outcome`.
use Rattle.std.proofs.Common.{◌≡◌, ◌∙◌, ℕ, List, [], ◌∷◌, codes, Option, Some, None, option_map, option_and_then}
use Rattle.std.proofs.Common.{refl, sym, ap, subst}
use Rattle.serde_json.specs.Data.{Data, string}
use Rattle.serde_json.specs.Find.{get}
use Rattle.serde_json.specs.Written.{compact_text}
use Rattle.run_events.specs.declared.events.ReporterEvent.{ReporterEvent}
use Rattle.run_events.specs.declared.events.ReporterEvent.TheVariants.{Tick, Test}
use Rattle.run_events.specs.declared.events.TestEventKind.{TestEventKind}
use Rattle.run_events.specs.declared.events.TestEventKind.TheVariants as kinds
use Rattle.run_events.specs.declared.info.InfoSubject.{InfoSubject}
use Rattle.run_events.specs.declared.info.InfoSubject.TheVariants as subjects
use Rattle.run_input.specs.ValueOf.{json_value}
use Rattle.run_output.specs.Events.{event_fields, event_text, kind_fields}
use Rattle.run_output.specs.EventsOfInfo.{info_answered_fields, info_finished_fields, info_started_fields}
use Rattle.run_output.specs.EventsOfInfo.{subject_fields}
use Rattle.run_output.specs.EventsOfRun.{input_entered_fields, job_controlled_fields, run_cancelled_fields}
use Rattle.run_output.specs.EventsOfRun.{run_finished_fields, run_started_fields, sub_run_finished_fields}
use Rattle.run_output.specs.EventsOfRun.{sub_run_started_fields}
use Rattle.run_output.specs.EventsOfScripts.{script_finished_fields, script_slow_fields, script_started_fields}
use Rattle.run_output.specs.EventsOfTests.{attempt_failed_fields, retry_started_fields, test_finished_fields}
use Rattle.run_output.specs.EventsOfTests.{test_skipped_fields, test_slow_fields, test_started_fields}
use Rattle.run_text_laws.specs.Objects.{field_at}
use Rattle.run_text_laws.specs.Plain.{IsPlain}
use Rattle.run_text_laws.proofs.ObjectLemmas.{has_fields}
use Rattle.run_text_laws.proofs.ReadLemmas.{all_read}
use Rattle.run_laws_audit_line.proofs.DepthLemmas.{event_low}
use Rattle.run_laws_audit_line.proofs.EventLemmas.{value_read}
use Rattle.run_laws_audit_line.specs.EventLines.{IsReadSo, event_data}
use Rattle.run_audit_line.specs.EventLine.{audit_event_of}
use Rattle.run_audit_model.specs.Seen.{as_audited}
use Rattle.run_audit_cli.specs.AuditLines.{seen_line_of, seen_of_value}
use Rattle.run_laws_audit_text.proofs.FeedLemmas.{text_feedless}
use Rattle.run_laws_audit_text.proofs.LineLemmas.{HasNoFeed}
use Rattle.run_laws_audit_text.proofs.SeenLemmas.{event_seen}

-- nothing stands at this key
abbrev Lacks : List ℕ → List (List ℕ × Option Data) → Type 0
Lacks key fields = field_at key fields None ≡ None

-- nothing stands at `ask` in the fields of what answers
subject_no_ask : (subject : InfoSubject) → Lacks (codes "ask") (subject_fields subject)
unfolding subject_fields
subject_no_ask (subjects.Test test attempt attempts) = refl
subject_no_ask (subjects.Script script) = refl

-- nor at `outcome`
subject_no_outcome : (subject : InfoSubject) → Lacks (codes "outcome") (subject_fields subject)
unfolding subject_fields
subject_no_outcome (subjects.Test test attempt attempts) = refl
subject_no_outcome (subjects.Script script) = refl

-- nor at either in those of a kind of event
kind_lacks : (kind : TestEventKind)
    → Lacks (codes "ask") (kind_fields kind) × Lacks (codes "outcome") (kind_fields kind)
unfolding run_started_fields sub_run_started_fields sub_run_finished_fields script_started_fields script_slow_fields
    script_finished_fields test_started_fields test_slow_fields attempt_failed_fields retry_started_fields
    test_finished_fields test_skipped_fields info_started_fields info_answered_fields info_finished_fields
    input_entered_fields run_cancelled_fields job_controlled_fields run_finished_fields
kind_lacks (kinds.RunStarted event) = (refl, refl)
kind_lacks (kinds.StressSubRunStarted progress) = (refl, refl)
kind_lacks (kinds.StressSubRunFinished event) = (refl, refl)
kind_lacks (kinds.SetupScriptStarted event) = (refl, refl)
kind_lacks (kinds.SetupScriptSlow event) = (refl, refl)
kind_lacks (kinds.SetupScriptFinished event) = (refl, refl)
kind_lacks (kinds.TestStarted event) = (refl, refl)
kind_lacks (kinds.TestSlow event) = (refl, refl)
kind_lacks (kinds.TestAttemptFailedWillRetry event) = (refl, refl)
kind_lacks (kinds.TestRetryStarted event) = (refl, refl)
kind_lacks (kinds.TestFinished event) = (refl, refl)
kind_lacks (kinds.TestSkipped event) = (refl, refl)
kind_lacks (kinds.InfoStarted event) = (refl, refl)
kind_lacks (kinds.InfoResponse event) =
    (subject_no_ask event.response.subject, subject_no_outcome event.response.subject)
kind_lacks (kinds.InfoFinished missing) = (refl, refl)
kind_lacks (kinds.InputEnter event) = (refl, refl)
kind_lacks (kinds.RunBeginCancel event) = (refl, refl)
kind_lacks (kinds.RunBeginKill event) = (refl, refl)
kind_lacks (kinds.RunPaused event) = (refl, refl)
kind_lacks (kinds.RunContinued event) = (refl, refl)
kind_lacks (kinds.RunFinished event) = (refl, refl)

-- so the object of an event has neither
event_lacks : (e : ReporterEvent)
    → (get (codes "ask") (event_data e) ≡ None) × (get (codes "outcome") (event_data e) ≡ None)
unfolding event_fields
event_lacks Tick =
    let has = has_fields ((codes "event", Some (string (codes "tick"))) ∷ []) in
    (has.at (codes "ask"), has.at (codes "outcome"))
event_lacks (Test event) =
    let has = has_fields (event_fields event) in
    let lacks = kind_lacks event.kind in
    (has.at (codes "ask") ∙ lacks.0, has.at (codes "outcome") ∙ lacks.1)

-- its line is the text of its object
event_line : (e : ReporterEvent) → event_text e ≡ compact_text (event_data e)
event_line Tick = refl
event_line (Test event) = refl

-- so it is read as that object
event_value : (e : ReporterEvent) → IsPlain (event_data e) → json_value (event_text e) ≡ Some (event_data e)
event_value e plain =
    ap json_value (event_line e) ∙ value_read (event_data e) (all_read (event_data e) plain (event_low e))

-- and seen as an auditor sees the event
pub event_line_seen : (e : ReporterEvent) → IsPlain (event_data e) → IsReadSo e
    → seen_line_of (event_text e) ≡ Some (Some (as_audited e))
event_line_seen e plain is =
    let lacks = event_lacks e in
    let value = event_value e plain in
    let seen : audit_event_of (event_data e) ≡ Some (as_audited e) =
    ap (option_and_then audit_event_of) (sym value) ∙ is in
    ap (option_and_then seen_of_value) value ∙ event_seen (event_data e) lacks.0 lacks.1 ∙ ap (option_map Some) seen

-- its line has no line feed
pub event_feedless : (e : ReporterEvent) → IsPlain (event_data e) → HasNoFeed (event_text e)
event_feedless e plain = subst HasNoFeed (sym (event_line e)) (text_feedless (event_data e) plain)
