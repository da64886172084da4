-- What an auditor sees of the event that a line tells. Keys that it doesn't name are passed over.
use Rattle.std.specs.Prelude.{ℕ, Bool, true, false, ◌&&◌, List, [], ◌∷◌, codes, Option, Some, None, is_none}
use Rattle.std.specs.Prelude.{option_map, option_and_then, if◌then◌else◌}
use Rattle.serde_json.specs.Data.{Data, Items, no_items, item}
use Rattle.serde_json.specs.Find.{as_array, as_object, as_str, get}
use Rattle.serde_json.specs.Written.{compact_text}
use Rattle.run_events.specs.declared.cancel.CancelReason.{CancelReason}
use Rattle.run_events.specs.declared.cancel.CancelReason.TheVariants as reasons
use Rattle.run_events.specs.declared.plan.GroupSlot.{GroupSlot}
use Rattle.run_events.specs.declared.plan.TestInstanceId.{TestInstanceId}
use Rattle.run_events.specs.declared.plan.TestSlotAssignment.{TestSlotAssignment}
use Rattle.run_input.specs.Fields.{◌>>=◌, u32_of}
use Rattle.run_input.specs.PlanExpected.{instance_of}
use Rattle.run_input.specs.TurnLine.{is_word}
use Rattle.run_audit_model.specs.declared.audit_event.AuditEvent.{AuditEvent}
use Rattle.run_audit_model.specs.declared.audit_event.AuditEvent.TheVariants as seen
use Rattle.run_audit_line.specs.declared.event_name.EventName.{EventName}
use Rattle.run_audit_line.specs.declared.event_name.EventName.TheVariants as names

-- an event of which an auditor sees no more than that it is one
abbrev pub other_named : List ℕ → Option EventName
other_named name =
    if is_word name (codes "tick") then Some names.Other
    else if is_word name (codes "script-slow") then Some names.Other
    else if is_word name (codes "test-slow") then Some names.Other
    else if is_word name (codes "info-started") then Some names.Other
    else if is_word name (codes "info-response") then Some names.Other
    else if is_word name (codes "info-finished") then Some names.Other
    else if is_word name (codes "input-enter") then Some names.Other
    else if is_word name (codes "run-paused") then Some names.Other
    else if is_word name (codes "run-continued") then Some names.Other
    else None

-- the event that a name names
abbrev pub event_named : List ℕ → Option EventName
event_named name =
    if is_word name (codes "run-started") then Some names.RunStarted
    else if is_word name (codes "run-finished") then Some names.RunFinished
    else if is_word name (codes "sub-run-started") then Some names.SubRunStarted
    else if is_word name (codes "sub-run-finished") then Some names.SubRunFinished
    else if is_word name (codes "script-started") then Some names.ScriptStarted
    else if is_word name (codes "script-finished") then Some names.ScriptFinished
    else if is_word name (codes "test-started") then Some names.TestStarted
    else if is_word name (codes "test-attempt-failed") then Some names.AttemptFailed
    else if is_word name (codes "test-retry-started") then Some names.RetryStarted
    else if is_word name (codes "test-finished") then Some names.TestFinished
    else if is_word name (codes "test-skipped") then Some names.TestSkipped
    else if is_word name (codes "run-begin-cancel") then Some names.BeginCancel
    else if is_word name (codes "run-begin-kill") then Some names.BeginKill
    else other_named name

-- the reason that a word names
abbrev pub reason_named : List ℕ → Option CancelReason
reason_named word =
    if is_word word (codes "setup-script-failure") then Some reasons.SetupScriptFailure
    else if is_word word (codes "test-failure") then Some reasons.TestFailure
    else if is_word word (codes "report-error") then Some reasons.ReportError
    else if is_word word (codes "global-timeout") then Some reasons.GlobalTimeout
    else if is_word word (codes "test-failure-immediate") then Some reasons.TestFailureImmediate
    else if is_word word (codes "signal") then Some reasons.Signal
    else if is_word word (codes "interrupt") then Some reasons.Interrupt
    else if is_word word (codes "second-signal") then Some reasons.SecondSignal
    else None

-- the reason that statistics have
abbrev pub stats_reason : Data → Option CancelReason
stats_reason stats = option_and_then reason_named (option_and_then as_str (get (codes "cancel_reason") stats))

-- a slot in a group: its number and the group's name
abbrev pub group_slot_with : Data → Option GroupSlot
group_slot_with d = do
  number ← option_and_then u32_of (get (codes "group") d)
  text ← option_and_then as_str (get (codes "name") d)
  Some (record { slot = number; name = text })

-- none where neither is said
abbrev pub group_slot_of : Data → Option (Option GroupSlot)
group_slot_of d = if is_none (get (codes "group") d) && is_none (get (codes "name") d) then Some None
    else option_map Some (group_slot_with d)

abbrev pub assignment_of : Data → Option TestSlotAssignment
assignment_of d = do
  global ← option_and_then u32_of (get (codes "global") d)
  group ← group_slot_of d
  Some (record { global = global; group = group })

-- a status is an object, as its text with no space
abbrev pub compact_status : Data → Option (List ℕ)
compact_status d = option_map (λ members. compact_text d) (as_object d)

abbrev pub compact_statuses_from : Items → Option (List (List ℕ))
compact_statuses_from no_items = Some []
compact_statuses_from (item d ds) = do
  status ← compact_status d
  statuses ← compact_statuses_from ds
  Some (status ∷ statuses)

abbrev pub compact_statuses : Data → Option (List (List ℕ))
compact_statuses d = option_and_then compact_statuses_from (as_array d)

-- what stands at a key
abbrev pub test_id_at : Data → Option TestInstanceId
test_id_at d = option_and_then instance_of (get (codes "test") d)

abbrev pub compact_status_at : Data → Option (List ℕ)
compact_status_at d = option_and_then compact_status (get (codes "status") d)

abbrev pub script_index_at : Data → Option ℕ
script_index_at d = option_and_then u32_of (get (codes "index") d)

abbrev pub cancel_reason_at : Data → Option CancelReason
cancel_reason_at d = option_and_then stats_reason (get (codes "stats") d)

-- an event of a test
unfoldable pub test_started_of : Data → Option AuditEvent
test_started_of d = do
  test ← test_id_at d
  slot ← option_and_then assignment_of (get (codes "slot") d)
  Some (seen.TestStarted test slot)

unfoldable pub attempt_failed_of : Data → Option AuditEvent
attempt_failed_of d = do
  test ← test_id_at d
  status ← compact_status_at d
  Some (seen.AttemptFailed test status)

unfoldable pub retry_of : Data → Option AuditEvent
retry_of d = do
  test ← test_id_at d
  attempt ← option_and_then u32_of (get (codes "attempt") d)
  Some (seen.RetryStarted test attempt)

unfoldable pub test_finished_of : Data → Option AuditEvent
test_finished_of d = do
  test ← test_id_at d
  statuses ← option_and_then compact_statuses (get (codes "statuses") d)
  Some (seen.Finished test statuses)

unfoldable pub test_skipped_of : Data → Option AuditEvent
test_skipped_of d = option_map seen.Skipped (test_id_at d)

-- of a setup script, by its number in the plan
unfoldable pub script_started_of : Data → Option AuditEvent
script_started_of d = option_map seen.ScriptStarted (script_index_at d)

unfoldable pub script_finished_of : Data → Option AuditEvent
script_finished_of d = do
  index ← script_index_at d
  status ← compact_status_at d
  Some (seen.ScriptFinished index status)

-- a run is cancelled, or killed, for the reason that its statistics have
unfoldable pub cancelled_of : Bool → Data → Option AuditEvent
cancelled_of kill d = option_map (λ reason. seen.Cancel reason kill) (cancel_reason_at d)

-- the event of a name
abbrev pub event_by : EventName → Data → Option AuditEvent
event_by names.RunStarted d = Some seen.RunStarted
event_by names.RunFinished d = Some seen.RunFinished
event_by names.SubRunStarted d = Some seen.SubRunStarted
event_by names.SubRunFinished d = Some seen.SubRunFinished
event_by names.ScriptStarted d = script_started_of d
event_by names.ScriptFinished d = script_finished_of d
event_by names.TestStarted d = test_started_of d
event_by names.AttemptFailed d = attempt_failed_of d
event_by names.RetryStarted d = retry_of d
event_by names.TestFinished d = test_finished_of d
event_by names.TestSkipped d = test_skipped_of d
event_by names.BeginCancel d = cancelled_of false d
event_by names.BeginKill d = cancelled_of true d
event_by names.Other d = Some seen.Other

-- the event that a value tells, as an auditor sees it
unfoldable pub audit_event_of : Data → Option AuditEvent
audit_event_of d = do
  word ← option_and_then as_str (get (codes "event") d)
  name ← event_named word
  event_by name d
