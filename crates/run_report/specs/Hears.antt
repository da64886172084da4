-- What a report remembers after an event.
use Rattle.std.specs.Prelude.{List, [], map}
use Rattle.run_events.specs.declared.events.ReporterEvent.{ReporterEvent}
use Rattle.run_events.specs.declared.events.ReporterEvent.TheVariants.{Tick, Test}
use Rattle.run_events.specs.declared.events.TestEventKind.{TestEventKind}
use Rattle.run_events.specs.declared.events.TestEventKind.TheVariants as kinds
use Rattle.run_report.specs.declared.heard.Heard.{Heard}
use Rattle.run_report.specs.declared.levels.ReportSettings.{ReportSettings}
use Rattle.run_report.specs.Heard.{kept_finishes, total_told}
use Rattle.run_report.specs.Kept.{kept_after, kept_for}

abbrev pub heard_after_kind : ReportSettings → Heard → TestEventKind → Heard
heard_after_kind settings heard (kinds.TestStarted told) = record heard { total = told.stats.initial_run_count }
heard_after_kind settings heard (kinds.TestFinished told) =
    record heard { kept = kept_after settings heard.kept told }
heard_after_kind settings heard (kinds.StressSubRunFinished told) = record heard { kept = [] }
heard_after_kind settings heard (kinds.RunFinished told) = record heard { kept = [] }
heard_after_kind settings heard _ = heard

-- what is remembered after an event
abbrev pub heard_after : ReportSettings → Heard → ReporterEvent → Heard
heard_after settings heard Tick = heard
heard_after settings heard (Test event) = heard_after_kind settings heard event.kind

-- what is remembered of events
unfoldable pub heard_of : ReportSettings → List ReporterEvent → Heard
heard_of settings told = record {
  total = total_told 0 told;
  kept = map (kept_for settings) (kept_finishes settings told);
}
