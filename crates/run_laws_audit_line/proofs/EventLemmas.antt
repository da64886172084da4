-- The line of an event is read as an auditor sees it.
use Rattle.std.proofs.Common.{◌≡◌, ◌∙◌, Some, option_and_then, refl, ap}
use Rattle.serde_json.specs.Data.{Data}
use Rattle.serde_json.specs.Written.{compact_text}
use Rattle.run_events.specs.declared.events.ReporterEvent.{ReporterEvent}
use Rattle.run_events.specs.declared.events.ReporterEvent.TheVariants.{Tick, Test}
use Rattle.run_input.specs.ValueOf.{json_value}
use Rattle.run_output.specs.Events.{event_fields, event_text}
use Rattle.run_text_laws.specs.Plain.{IsRead, IsPlain}
use Rattle.run_text_laws.proofs.ReadLemmas.{all_read}
use Rattle.run_audit_line.specs.EventLine.{audit_event_of}
use Rattle.run_audit_model.specs.Seen.{as_audited}
use Rattle.run_laws_audit_line.specs.EventLines.{event_data, TellsWhy, NumbersFit}
use Rattle.run_laws_audit_line.proofs.DepthLemmas.{event_low}
use Rattle.run_laws_audit_line.proofs.KindLemmas.{event_read}

-- the object of each such event is read as an auditor sees it
data_read : (e : ReporterEvent) → NumbersFit e → TellsWhy e → audit_event_of (event_data e) ≡ Some (as_audited e)
unfolding audit_event_of event_fields
data_read Tick fits has = refl
data_read (Test event) fits has = event_read event.clock event.elapsed event.kind fits has

-- a value that is read back is the JSON value of its text
pub value_read : (d : Data) → IsRead d → json_value (compact_text d) ≡ Some d
unfolding json_value
value_read d h = rw (h.utf8, h.read, h.whole) refl

-- an event's line is the text of its object
event_line : (e : ReporterEvent) → event_text e ≡ compact_text (event_data e)
event_line Tick = refl
event_line (Test event) = refl

-- the line of each such event is read as an auditor sees it
pub lines_read : (e : ReporterEvent) → IsPlain (event_data e) → NumbersFit e → TellsWhy e
    → option_and_then audit_event_of (json_value (event_text e)) ≡ Some (as_audited e)
lines_read e plain fits has =
    ap (λ text. option_and_then audit_event_of (json_value text)) (event_line e)
    ∙ ap (option_and_then audit_event_of) (value_read (event_data e) (all_read (event_data e) plain (event_low e)))
    ∙ data_read e fits has
