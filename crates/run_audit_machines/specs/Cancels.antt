-- The cancels of a part as a machine: those that are due come in order, and nothing starts once one was told.
use Rattle.std.specs.Prelude.{List, map, reverse, Bool, false, ◌&&◌, ◌||◌, not, ◌==◌, if◌then◌else◌, Some, is_some}
use Rattle.run_events.specs.Cancel.{rank}
use Rattle.run_events.specs.declared.cancel.CancelReason.{CancelReason}
use Rattle.run_model.specs.declared.happening.Happening.{Happening}
use Rattle.run_model.specs.Words.{ended_runs}
use Rattle.run_laws.specs.Cancels.{is_second}
use Rattle.run_audit_model.specs.Places.{Machine}
use Rattle.run_audit_model.specs.SeenCancels.{is_seen_any_start, raised, seen_cancel}
use Rattle.run_audit_model.specs.declared.audit_event.AuditEvent.{AuditEvent}
use Rattle.run_audit_machines.specs.Machines.{InParts, one_each, over_parts, telling}

-- a reason, and whether the run is told killed
abbrev pub Cancelled : Type 0
Cancelled = CancelReason × Bool

abbrev pub is_same_cancel : Cancelled → Cancelled → Bool
is_same_cancel a b = (rank a.0 == rank b.0) && (if a.1 then b.1 else not b.1)

abbrev pub cancel_told : Bool → AuditEvent → Bool
cancel_told told e = is_some (seen_cancel e) || told

abbrev pub may_start : Bool → AuditEvent → Bool
may_start told e = not (is_seen_any_start e && told)

-- what is due of the open part, with whether one was told
abbrev pub CancelPart : Type 0
CancelPart = List Cancelled × Bool

abbrev pub cancel_part : Machine CancelPart AuditEvent
cancel_part = telling is_same_cancel seen_cancel cancel_told may_start

abbrev pub cancel_machine : Machine (InParts CancelPart (List CancelPart)) AuditEvent
cancel_machine = over_parts cancel_part one_each

-- what is due of a sub-run, and of each that has ended
abbrev pub due_cancels : List Happening → List Cancelled
due_cancels run = map (λ reason. (reason, is_second (Some reason))) (raised run)

abbrev pub cancels_of : List Happening → CancelPart
cancels_of run = (due_cancels run, false)

abbrev pub cancel_parts : List Happening → List CancelPart
cancel_parts past = map cancels_of (reverse (ended_runs past))
