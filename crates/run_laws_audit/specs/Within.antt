-- What a sub-run tells between its begin and its end, and the part of it that an auditor sees.
use Rattle.std.specs.Prelude.{List, [], ◌∷◌, ◌++◌, ◌||◌, map, if◌then◌else◌}
use Rattle.run_events.specs.declared.events.ReporterEvent.{ReporterEvent}
use Rattle.run_events.specs.declared.settings.Settings.{Settings}
use Rattle.run_model.specs.declared.happening.Happening.{Happening}
use Rattle.run_model.specs.Words.{events_in}
use Rattle.run_audit_model.specs.Parts.{is_stress}
use Rattle.run_audit_model.specs.Seen.{as_audited}
use Rattle.run_audit_model.specs.declared.audit_event.AuditEvent.{AuditEvent}
use Rattle.run_audit_model.specs.declared.audit_event.AuditEvent.TheVariants as seen

-- what a turn tells where it neither begins nor ends a sub-run, and what the turns of a sub-run tell so, in order
abbrev pub events_within : Happening → List ReporterEvent
events_within x = if x.begins || x.ends then [] else events_in x

abbrev pub told_within : List Happening → List ReporterEvent
told_within [] = []
told_within (x ∷ run) = told_within run ++ events_within x

-- the part of a sub-run; without stress the start of the run stands in it too
abbrev pub sub_run_part : Settings → List Happening → List AuditEvent
sub_run_part p run = (if is_stress p then [] else seen.RunStarted ∷ []) ++ map as_audited (told_within run)
