-- Where events stop keeping a law of a run, by what is needed of its settings and what it told.
use Rattle.std.specs.Prelude.{ℕ, List, Option}
use Rattle.run_events.specs.declared.events.ReporterEvent.{ReporterEvent}
use Rattle.run_events.specs.declared.settings.Settings.{Settings}
use Rattle.run_model.specs.declared.entry.Entry.{Entry}
use Rattle.run_model.specs.declared.happening.Happening.{Happening}
use Rattle.run_model.specs.Journal.{past_of}
use Rattle.run_audit_model.specs.Kept.{IsRightVerdict, KeepsLaw}
use Rattle.run_audit_model.specs.declared.audit_event.AuditEvent.{AuditEvent}
use Rattle.run_audit_model.specs.declared.audit_event.Verdict.{Verdict}
use Rattle.run_audit_machines.specs.Machines.{IsPlaceOf}
use Rattle.run_audit.specs.Needs.{AreNeedsOf, HasToldAll}
use Rattle.run_audit.specs.declared.needs.Needs.{Needs}

-- the law of this number is kept, or can't be kept from that place on
abbrev pub StopsByLaw : ℕ → Needs → List ReporterEvent → List AuditEvent → Option ℕ → Type 0
StopsByLaw law needs told events stop = (p : Settings) (journal : List Entry) → AreNeedsOf p needs
    → HasToldAll p journal told → IsPlaceOf (KeepsLaw p (past_of p journal) law) events stop

-- so of the limits, which are kept or broken whatever the run has told
abbrev pub IsLimitStop : Settings → List AuditEvent → Option ℕ → Type 0
IsLimitStop p events stop = (past : List Happening) → IsPlaceOf (KeepsLaw p past 3) events stop

-- the verdict on the events is right
abbrev pub IsRightBy : Needs → Option ℕ → List ReporterEvent → List AuditEvent → Verdict → Type 0
IsRightBy needs limit told events verdict = (p : Settings) (journal : List Entry) → AreNeedsOf p needs
    → IsLimitStop p events limit → HasToldAll p journal told → IsRightVerdict p (past_of p journal) events verdict
