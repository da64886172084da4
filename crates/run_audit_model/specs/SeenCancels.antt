-- How a part tells that its run is cancelled, and what is due by the run's causes.
use Rattle.std.specs.Prelude.{◌≡◌, List, [], ◌∷◌, ◌++◌, map, filter_map, if◌then◌else◌, Bool, true, false}
use Rattle.std.specs.Prelude.{Option, Some, None, option_to_list, is_some}
use Rattle.std.specs.List.{list_any}
use Rattle.run_events.specs.declared.cancel.CancelReason.{CancelReason}
use Rattle.run_model.specs.declared.happening.Happening.{Happening}
use Rattle.run_model.specs.Words.{reason}
use Rattle.run_laws.specs.Cancels.{rises, is_second}
use Rattle.run_audit_model.specs.declared.audit_event.AuditEvent.{AuditEvent}
use Rattle.run_audit_model.specs.declared.audit_event.AuditEvent.TheVariants as seen

-- the reason that an event tells, and whether it tells that the run is killed
abbrev pub seen_cancel : AuditEvent → Option (CancelReason × Bool)
seen_cancel (seen.Cancel reason kill) = Some (reason, kill)
seen_cancel _ = None

-- the causes of a sub-run, each of which is above all before it, in order
abbrev pub raised : List Happening → List CancelReason
raised [] = []
raised (x ∷ run) = raised run ++ option_to_list (if rises (reason run) x.cause then x.cause else None)

-- whether an event tells that a script, a test or a further attempt starts
abbrev pub is_seen_any_start : AuditEvent → Bool
is_seen_any_start (seen.ScriptStarted index) = true
is_seen_any_start (seen.TestStarted test slot) = true
is_seen_any_start (seen.RetryStarted test attempt) = true
is_seen_any_start _ = false

-- a part tells each of them, as killed exactly for a second signal; and nothing starts once one was told
pub record KeepsCancels (run : List Happening) (part : List AuditEvent) : Type 0 where
  pub told : filter_map seen_cancel part ≡ map (λ reason. (reason, is_second (Some reason))) (raised run)
  pub no_start : (before after : List AuditEvent) (e : AuditEvent) → part ≡ before ++ e ∷ after
      → is_seen_any_start e ≡ true → list_any (λ c. is_some (seen_cancel c)) before ≡ false
