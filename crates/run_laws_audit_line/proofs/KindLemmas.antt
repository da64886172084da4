-- The object of an event is read, by its kind, as an auditor sees it.
use Rattle.std.proofs.Common.{◌≡◌, ◌∙◌, ℕ, Bool, true, false, List, ◌∷◌, Option, Some, None, IsSome, codes, refl}
use Rattle.std.proofs.Common.{sym, true≢false}
use Rattle.serde_json.specs.Data.{Data, string}
use Rattle.serde_json.specs.Find.{get}
use Rattle.run_events.specs.declared.cancel.CancelReason.{CancelReason}
use Rattle.run_events.specs.declared.events.TestEventKind.{TestEventKind}
use Rattle.run_events.specs.declared.events.TestEventKind.TheVariants as kinds
use Rattle.run_events.specs.declared.info.InfoSubject.{InfoSubject}
use Rattle.run_events.specs.declared.info.InfoSubject.TheVariants.{Test, Script}
use Rattle.run_events.specs.declared.stats.RunStats.{RunStats}
use Rattle.run_output.specs.Events.{event_word, kind_fields}
use Rattle.run_output.specs.EventsOfInfo.{info_answered_fields, info_finished_fields, info_started_fields}
use Rattle.run_output.specs.EventsOfInfo.{subject_fields}
use Rattle.run_output.specs.EventsOfRun.{input_entered_fields, job_controlled_fields, run_cancelled_fields}
use Rattle.run_output.specs.EventsOfRun.{run_finished_fields, run_started_fields, sub_run_finished_fields}
use Rattle.run_output.specs.EventsOfRun.{sub_run_started_fields}
use Rattle.run_output.specs.EventsOfScripts.{script_finished_fields, script_slow_fields, script_started_fields}
use Rattle.run_output.specs.EventsOfTests.{attempt_failed_fields, retry_started_fields, test_finished_fields}
use Rattle.run_output.specs.EventsOfTests.{test_skipped_fields, test_slow_fields, test_started_fields}
use Rattle.run_output.specs.Fields.{count, object_of}
use Rattle.run_output.specs.Stats.{stats_data}
use Rattle.run_text_laws.specs.Objects.{field_at}
use Rattle.run_text_laws.proofs.ObjectLemmas.{has_fields}
use Rattle.run_audit_model.specs.Seen.{audited_kind, cancel_seen}
use Rattle.run_audit_model.specs.declared.audit_event.AuditEvent.{AuditEvent}
use Rattle.run_audit_line.specs.EventLine.{audit_event_of, cancelled_of, event_by, event_named}
use Rattle.run_audit_line.specs.declared.event_name.EventName.{EventName}
use Rattle.run_audit_line.specs.declared.event_name.EventName.TheVariants as names
use Rattle.run_laws_audit_line.specs.EventLines.{TellsWhyIn, NumbersFitIn}
use Rattle.run_laws_audit_line.proofs.ReadLemmas.{cancelled_read, failed_read, finished_read, retry_read}
use Rattle.run_laws_audit_line.proofs.ReadLemmas.{script_finished_read, script_started_read, skipped_read, started_read}

-- the fields of an event: its moments, its word and the fields of its kind
abbrev pub fields_with : ℕ → ℕ → TestEventKind → List (List ℕ × Option Data)
fields_with clock elapsed kind =
    (codes "clock", Some (count clock))
    ∷ (codes "elapsed", Some (count elapsed))
    ∷ (codes "event", Some (string (event_word kind)))
    ∷ kind_fields kind

-- their object
abbrev pub data_with : ℕ → ℕ → TestEventKind → Data
data_with clock elapsed kind = object_of (fields_with clock elapsed kind)

-- data with the word of a name are read by that name
pub by_word : (d : Data) (word : List ℕ) (name : EventName) (event : AuditEvent)
    → get (codes "event") d ≡ Some (string word) → event_named word ≡ Some name → event_by name d ≡ Some event
    → audit_event_of d ≡ Some event
unfolding audit_event_of
by_word d word name event at_event named is = rw (at_event, named, is) refl

-- each kind has its name
abbrev name_of : TestEventKind → EventName
name_of (kinds.RunStarted event) = names.RunStarted
name_of (kinds.StressSubRunStarted progress) = names.SubRunStarted
name_of (kinds.StressSubRunFinished event) = names.SubRunFinished
name_of (kinds.SetupScriptStarted event) = names.ScriptStarted
name_of (kinds.SetupScriptFinished event) = names.ScriptFinished
name_of (kinds.TestStarted event) = names.TestStarted
name_of (kinds.TestAttemptFailedWillRetry event) = names.AttemptFailed
name_of (kinds.TestRetryStarted event) = names.RetryStarted
name_of (kinds.TestFinished event) = names.TestFinished
name_of (kinds.TestSkipped event) = names.TestSkipped
name_of (kinds.RunBeginCancel event) = names.BeginCancel
name_of (kinds.RunBeginKill event) = names.BeginKill
name_of (kinds.RunFinished event) = names.RunFinished
name_of (kinds.SetupScriptSlow event) = names.Other
name_of (kinds.TestSlow event) = names.Other
name_of (kinds.InfoStarted event) = names.Other
name_of (kinds.InfoResponse event) = names.Other
name_of (kinds.InfoFinished missing) = names.Other
name_of (kinds.InputEnter event) = names.Other
name_of (kinds.RunPaused event) = names.Other
name_of (kinds.RunContinued event) = names.Other

-- which its word names
kind_named : (kind : TestEventKind) → event_named (event_word kind) ≡ Some (name_of kind)
unfolding event_word
kind_named (kinds.RunStarted event) = refl
kind_named (kinds.StressSubRunStarted progress) = refl
kind_named (kinds.StressSubRunFinished event) = refl
kind_named (kinds.SetupScriptStarted event) = refl
kind_named (kinds.SetupScriptFinished event) = refl
kind_named (kinds.TestStarted event) = refl
kind_named (kinds.TestAttemptFailedWillRetry event) = refl
kind_named (kinds.TestRetryStarted event) = refl
kind_named (kinds.TestFinished event) = refl
kind_named (kinds.TestSkipped event) = refl
kind_named (kinds.RunBeginCancel event) = refl
kind_named (kinds.RunBeginKill event) = refl
kind_named (kinds.RunFinished event) = refl
kind_named (kinds.SetupScriptSlow event) = refl
kind_named (kinds.TestSlow event) = refl
kind_named (kinds.InfoStarted event) = refl
kind_named (kinds.InfoResponse event) = refl
kind_named (kinds.InfoFinished missing) = refl
kind_named (kinds.InputEnter event) = refl
kind_named (kinds.RunPaused event) = refl
kind_named (kinds.RunContinued event) = refl

-- no field of a kind is named as its word is
subject_other : (subject : InfoSubject) (before : Option Data)
    → field_at (codes "event") (subject_fields subject) before ≡ before
unfolding subject_fields
subject_other (Test test attempt attempts) before = refl
subject_other (Script script) before = refl

other_fields : (kind : TestEventKind) (before : Option Data)
    → field_at (codes "event") (kind_fields kind) before ≡ before
unfolding run_started_fields sub_run_started_fields sub_run_finished_fields script_started_fields script_slow_fields
    script_finished_fields test_started_fields test_slow_fields attempt_failed_fields retry_started_fields
    test_finished_fields test_skipped_fields info_started_fields info_answered_fields info_finished_fields
    input_entered_fields run_cancelled_fields job_controlled_fields run_finished_fields
other_fields (kinds.RunStarted event) before = refl
other_fields (kinds.StressSubRunStarted progress) before = refl
other_fields (kinds.StressSubRunFinished event) before = refl
other_fields (kinds.SetupScriptStarted event) before = refl
other_fields (kinds.SetupScriptFinished event) before = refl
other_fields (kinds.TestStarted event) before = refl
other_fields (kinds.TestAttemptFailedWillRetry event) before = refl
other_fields (kinds.TestRetryStarted event) before = refl
other_fields (kinds.TestFinished event) before = refl
other_fields (kinds.TestSkipped event) before = refl
other_fields (kinds.RunBeginCancel event) before = refl
other_fields (kinds.RunBeginKill event) before = refl
other_fields (kinds.RunFinished event) before = refl
other_fields (kinds.SetupScriptSlow event) before = refl
other_fields (kinds.TestSlow event) before = refl
other_fields (kinds.InfoStarted event) before = refl
other_fields (kinds.InfoResponse event) before = subject_other event.response.subject before
other_fields (kinds.InfoFinished missing) before = refl
other_fields (kinds.InputEnter event) before = refl
other_fields (kinds.RunPaused event) before = refl
other_fields (kinds.RunContinued event) before = refl

-- its word
word_at : (clock elapsed : ℕ) (kind : TestEventKind)
    → get (codes "event") (data_with clock elapsed kind) ≡ Some (string (event_word kind))
word_at clock elapsed kind =
    (has_fields (fields_with clock elapsed kind)).at (codes "event")
    ∙ other_fields kind (Some (string (event_word kind)))

-- what a cancel is read as
cancel_read : (d : Data) (stats : RunStats) (o : Option CancelReason) (kill : Bool)
    → get (codes "stats") d ≡ Some (stats_data stats) → stats.cancel_reason ≡ o → IsSome o
    → cancelled_of kill d ≡ Some (cancel_seen o kill)
cancel_read d stats None kill at_stats is some = absurd (true≢false (sym some))
cancel_read d stats (Some reason) kill at_stats is some = cancelled_read d stats reason kill at_stats is

-- what the fields of its kind say is read as an auditor sees it
kind_read : (clock elapsed : ℕ) (kind : TestEventKind) → NumbersFitIn kind → TellsWhyIn kind
    → event_by (name_of kind) (data_with clock elapsed kind) ≡ Some (audited_kind kind)
unfolding script_started_fields script_finished_fields test_started_fields attempt_failed_fields retry_started_fields
    test_finished_fields test_skipped_fields run_cancelled_fields
kind_read clock elapsed (kinds.RunStarted event) fits has = refl
kind_read clock elapsed (kinds.StressSubRunStarted progress) fits has = refl
kind_read clock elapsed (kinds.StressSubRunFinished event) fits has = refl
kind_read clock elapsed (kinds.SetupScriptStarted event) fits has =
    let at = (has_fields (fields_with clock elapsed (kinds.SetupScriptStarted event))).at in
    script_started_read _ event.script.index (at (codes "index")) fits
kind_read clock elapsed (kinds.SetupScriptFinished event) fits has =
    let at = (has_fields (fields_with clock elapsed (kinds.SetupScriptFinished event))).at in
    script_finished_read _ event.script.index event.status (at (codes "index"))
    (at (codes "status")) fits
kind_read clock elapsed (kinds.TestStarted event) fits has =
    let at = (has_fields (fields_with clock elapsed (kinds.TestStarted event))).at in
    started_read _ event.start.test.id event.start.slot (at (codes "test"))
    (at (codes "slot")) fits
kind_read clock elapsed (kinds.TestAttemptFailedWillRetry event) fits has =
    let at = (has_fields (fields_with clock elapsed (kinds.TestAttemptFailedWillRetry event))).at in
    failed_read _ event.failed.test.id event.failed.status (at (codes "test"))
    (at (codes "status"))
kind_read clock elapsed (kinds.TestRetryStarted event) fits has =
    let at = (has_fields (fields_with clock elapsed (kinds.TestRetryStarted event))).at in
    retry_read _ event.retry.start.test.id event.retry.attempt (at (codes "test"))
    (at (codes "attempt")) fits
kind_read clock elapsed (kinds.TestFinished event) fits has =
    let at = (has_fields (fields_with clock elapsed (kinds.TestFinished event))).at in
    finished_read _ event.finish.test.id event.finish.statuses (at (codes "test"))
    (at (codes "statuses"))
kind_read clock elapsed (kinds.TestSkipped event) fits has =
    let at = (has_fields (fields_with clock elapsed (kinds.TestSkipped event))).at in
    skipped_read _ event.test.id (at (codes "test"))
kind_read clock elapsed (kinds.RunBeginCancel event) fits has =
    let at = (has_fields (fields_with clock elapsed (kinds.RunBeginCancel event))).at in
    cancel_read _ event.stats event.stats.cancel_reason false (at (codes "stats")) refl has
kind_read clock elapsed (kinds.RunBeginKill event) fits has =
    let at = (has_fields (fields_with clock elapsed (kinds.RunBeginKill event))).at in
    cancel_read _ event.stats event.stats.cancel_reason true (at (codes "stats")) refl has
kind_read clock elapsed (kinds.RunFinished event) fits has = refl
kind_read clock elapsed (kinds.SetupScriptSlow event) fits has = refl
kind_read clock elapsed (kinds.TestSlow event) fits has = refl
kind_read clock elapsed (kinds.InfoStarted event) fits has = refl
kind_read clock elapsed (kinds.InfoResponse event) fits has = refl
kind_read clock elapsed (kinds.InfoFinished missing) fits has = refl
kind_read clock elapsed (kinds.InputEnter event) fits has = refl
kind_read clock elapsed (kinds.RunPaused event) fits has = refl
kind_read clock elapsed (kinds.RunContinued event) fits has = refl

-- so is the object of each event
pub event_read : (clock elapsed : ℕ) (kind : TestEventKind) → NumbersFitIn kind → TellsWhyIn kind
    → audit_event_of (data_with clock elapsed kind) ≡ Some (audited_kind kind)
event_read clock elapsed kind fits has =
    by_word (data_with clock elapsed kind) (event_word kind) (name_of kind) (audited_kind kind)
    (word_at clock elapsed kind) (kind_named kind) (kind_read clock elapsed kind fits has)
