-- What an auditor sees of what a reporter is told.
use Rattle.std.specs.Prelude.{ℕ, List, map, Bool, true, false, Option, Some, None}
use Rattle.serde_json.specs.Written.{compact_text}
use Rattle.run_events.specs.declared.cancel.CancelReason.{CancelReason}
use Rattle.run_events.specs.declared.events.ReporterEvent.{ReporterEvent}
use Rattle.run_events.specs.declared.events.ReporterEvent.TheVariants.{Tick, Test}
use Rattle.run_events.specs.declared.events.TestEventKind.{TestEventKind}
use Rattle.run_events.specs.declared.events.TestEventKind.TheVariants as kinds
use Rattle.run_events.specs.declared.result.ExecuteStatus.{ExecuteStatus}
use Rattle.run_events.specs.declared.result.SetupScriptExecuteStatus.{SetupScriptExecuteStatus}
use Rattle.run_output.specs.Statuses.{status_data, script_status_data}
use Rattle.run_audit_model.specs.declared.audit_event.AuditEvent.{AuditEvent}
use Rattle.run_audit_model.specs.declared.audit_event.AuditEvent.TheVariants as seen

-- the text of an attempt: that of its object; and of a setup script's
abbrev pub attempt_text : ExecuteStatus → List ℕ
attempt_text status = compact_text (status_data status)

abbrev pub script_status_text : SetupScriptExecuteStatus → List ℕ
script_status_text status = compact_text (script_status_data status)

-- a run is cancelled, or killed, for the reason of its statistics; where they have none, that is any other event
abbrev pub cancel_seen : Option CancelReason → Bool → AuditEvent
cancel_seen None kill = seen.Other
cancel_seen (Some reason) kill = seen.Cancel reason kill

-- an event as it is seen, by its kind: a script by its number in the plan, a test by its id
abbrev pub audited_kind : TestEventKind → AuditEvent
audited_kind (kinds.RunStarted event) = seen.RunStarted
audited_kind (kinds.RunFinished event) = seen.RunFinished
audited_kind (kinds.StressSubRunStarted progress) = seen.SubRunStarted
audited_kind (kinds.StressSubRunFinished event) = seen.SubRunFinished
audited_kind (kinds.SetupScriptStarted event) = seen.ScriptStarted event.script.index
audited_kind (kinds.SetupScriptFinished event) =
    seen.ScriptFinished event.script.index (script_status_text event.status)
audited_kind (kinds.TestStarted event) = seen.TestStarted event.start.test.id event.start.slot
audited_kind (kinds.TestAttemptFailedWillRetry event) =
    seen.AttemptFailed event.failed.test.id (attempt_text event.failed.status)
audited_kind (kinds.TestRetryStarted event) = seen.RetryStarted event.retry.start.test.id event.retry.attempt
audited_kind (kinds.TestFinished event) = seen.Finished event.finish.test.id (map attempt_text event.finish.statuses)
audited_kind (kinds.TestSkipped event) = seen.Skipped event.test.id
audited_kind (kinds.RunBeginCancel event) = cancel_seen event.stats.cancel_reason false
audited_kind (kinds.RunBeginKill event) = cancel_seen event.stats.cancel_reason true
audited_kind _ = seen.Other

-- so what a reporter is told
abbrev pub as_audited : ReporterEvent → AuditEvent
as_audited (Test event) = audited_kind event.kind
as_audited Tick = seen.Other
