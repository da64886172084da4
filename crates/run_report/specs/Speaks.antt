-- What a report has written of the events that it heard.
use Rattle.std.specs.Prelude.{ℕ, ◌≡◌, List, Option, Result, OnOk}
use Rattle.run_capture.specs.declared.source.Failed.{Failed}
use Rattle.run_events.specs.declared.events.ReporterEvent.{ReporterEvent}
use Rattle.run_events.specs.declared.reporter.ReportFault.{ReportFault}
use Rattle.run_events.specs.Counts.{CountsRefusal}
use Rattle.run_report.specs.declared.heard.Heard.{Heard}
use Rattle.run_report.specs.declared.levels.ReportSettings.{ReportSettings}
use Rattle.run_report.specs.Hears.{heard_of}
use Rattle.run_report.specs.Report.{report_text}
use Rattle.run_report.specs.Took.{TookPart}

-- since its sink stood so, the sink took the text of the report of these events: all of it, or a front part where the
-- sink failed, or memory was wanting; its count of faults rose exactly where it failed
pub record Shows (settings : ReportSettings) (before now : Option (List ℕ)) (faults faults_now : ℕ)
    (went : Result (Unit {0}) (ReportFault Failed)) (events : List ReporterEvent) : Type 0 where
  pub took : TookPart before now (report_text settings events) went
  pub counted : CountsRefusal faults faults_now went

-- and while it speaks, it remembers what the text of further events needs
pub record Speaks (settings : ReportSettings) (before now : Option (List ℕ)) (faults faults_now : ℕ)
    (went : Result (Unit {0}) (ReportFault Failed)) (heard : Heard) (events : List ReporterEvent) : Type 0 where
  pub shows : Shows settings before now faults faults_now went events
  pub remembers : OnOk went (heard ≡ heard_of settings events)
