-- Events that are read one by one.
use Rattle.std.specs.Prelude.{List, [], ◌∷◌, ◌++◌, Option, Some, None}
use Rattle.run_audit_model.specs.declared.audit_event.AuditEvent.{AuditEvent}

-- events, and one after them where one is seen
abbrev pub with_last : List AuditEvent → Option AuditEvent → List AuditEvent
with_last events None = events
with_last events (Some event) = events ++ event ∷ []
