-- Events whose parts an auditor can read, and that their lines are read as an auditor sees them.
use Rattle.std.specs.Prelude.{ℕ, [], ◌∷◌, ◌≡◌, ◌<◌, ◌^◌, ⊤, Some, IfSome, IsSome, codes, option_and_then}
use Rattle.serde_json.specs.Data.{Data, string}
use Rattle.run_events.specs.declared.events.ReporterEvent.{ReporterEvent}
use Rattle.run_events.specs.declared.events.ReporterEvent.TheVariants.{Tick, Test}
use Rattle.run_events.specs.declared.events.TestEventKind.{TestEventKind}
use Rattle.run_events.specs.declared.events.TestEventKind.TheVariants as kinds
use Rattle.run_events.specs.declared.plan.TestSlotAssignment.{TestSlotAssignment}
use Rattle.run_input.specs.ValueOf.{json_value}
use Rattle.run_output.specs.Events.{event_fields, event_text}
use Rattle.run_output.specs.Fields.{object_of}
use Rattle.run_text_laws.specs.Plain.{IsPlain}
use Rattle.run_audit_line.specs.EventLine.{audit_event_of}
use Rattle.run_audit_model.specs.Seen.{as_audited}

-- the object that the line of an event is the text of
abbrev pub event_data : ReporterEvent → Data
event_data Tick = object_of ((codes "event", Some (string (codes "tick"))) ∷ [])
event_data (Test event) = object_of (event_fields event)

-- the number of a slot, and that in its group, have 32 bits
abbrev pub IsSlot : TestSlotAssignment → Type 0
IsSlot slot = (slot.global < 2 ^ 32) × IfSome slot.group (λ group. group.slot < 2 ^ 32)

-- the numbers that an auditor sees of an event fit 32 bits
abbrev pub NumbersFitIn : TestEventKind → Type 0
NumbersFitIn (kinds.SetupScriptStarted event) = event.script.index < 2 ^ 32
NumbersFitIn (kinds.SetupScriptFinished event) = event.script.index < 2 ^ 32
NumbersFitIn (kinds.TestStarted event) = IsSlot event.start.slot
NumbersFitIn (kinds.TestRetryStarted event) = event.retry.attempt < 2 ^ 32
NumbersFitIn _ = ⊤

abbrev pub NumbersFit : ReporterEvent → Type 0
NumbersFit (Test event) = NumbersFitIn event.kind
NumbersFit Tick = ⊤

-- where it tells that the run is cancelled or killed, its statistics have a reason
abbrev pub TellsWhyIn : TestEventKind → Type 0
TellsWhyIn (kinds.RunBeginCancel event) = IsSome event.stats.cancel_reason
TellsWhyIn (kinds.RunBeginKill event) = IsSome event.stats.cancel_reason
TellsWhyIn _ = ⊤

abbrev pub TellsWhy : ReporterEvent → Type 0
TellsWhy (Test event) = TellsWhyIn event.kind
TellsWhy Tick = ⊤

-- its line is read as an auditor sees it
abbrev pub IsReadSo : ReporterEvent → Type 0
IsReadSo e = option_and_then audit_event_of (json_value (event_text e)) ≡ Some (as_audited e)

-- so is that of each such event whose data are plain
abbrev pub EventLinesAreRead : Type 0
EventLinesAreRead = (e : ReporterEvent) → IsPlain (event_data e) → NumbersFit e → TellsWhy e → IsReadSo e
