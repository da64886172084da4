-- What a ledger was told, and what a report says of the run of a plan.
use Rattle.std.specs.Prelude.{ℕ, ◌≡◌, ◌==◌, List, Option, Some, None, filter_map, map, count_by, ⊤}
use Rattle.std.specs.List.{list_any}
use Rattle.std.specs.declared.convert.Infallible.{Infallible}
use Rattle.run_events.specs.Result.{is_success}
use Rattle.run_events.specs.Stats.{one_if}
use Rattle.run_events.specs.declared.events.ReporterEvent.{ReporterEvent}
use Rattle.run_events.specs.declared.events.ReporterEvent.TheVariants.{Test}
use Rattle.run_events.specs.declared.events.TestEventKind.{TestEventKind}
use Rattle.run_events.specs.declared.events.TestEventKind.TheVariants.{TestFinished, SetupScriptFinished}
use Rattle.run_events.specs.declared.plan.Plan.{Plan}
use Rattle.run_events.specs.declared.settings.Settings.{Settings}
use Rattle.run_model.specs.declared.entry.Entry.{Entry}
use Rattle.run_model.specs.Journal.{past_of, IsLegal, outcome}
use Rattle.run_model.specs.Words.{told}
use Rattle.run_engine.specs.Heard.{IsHeard}
use Rattle.run_engine.specs.World.{World}
use Rattle.run_laws_calls.specs.Counts.{is_to_run}
use Rattle.run_laws_calls.specs.Stops.{tells_cancel}
use Rattle.run_laws_calls.specs.Success.{has_last_passed}
use Rattle.example_supervisor.specs.declared.outside.JobResult.{JobResult}
use Rattle.example_supervisor.specs.declared.outside.Ledger.{Ledger}
use Rattle.example_supervisor.specs.declared.supervisor.Report.{Report}
use Rattle.example_supervisor.specs.declared.supervisor.Supervisor.{Supervisor}

-- the result that an event tells, of a script or a test
abbrev pub job_result_in : TestEventKind → Option JobResult
job_result_in (SetupScriptFinished e) = Some (record { job = e.script.unit; passed = is_success e.status.result })
job_result_in (TestFinished e) = Some (record { job = e.finish.test.unit; passed = has_last_passed e.finish.statuses })
job_result_in _ = None

abbrev pub job_result : ReporterEvent → Option JobResult
job_result (Test event) = job_result_in event.kind
job_result _ = None

-- the ledger of some events: the results that they tell, and whether one of them tells that the run is cancelled
abbrev pub ledger_of : List ReporterEvent → Ledger
ledger_of es = record { results = filter_map job_result es; cancelled = list_any tells_cancel es }

-- a run after some turns differs in its journal alone
abbrev pub Grows : World → World → Type 0
Grows old new = new ≡ record old { journal = new.journal }

-- the ledger of a supervisor is that of the events that its run has told
abbrev pub IsUpToDate : Supervisor → Type 0
IsUpToDate s = IsHeard {E = Infallible} (λ l xs. l ≡ ledger_of (map (λ x. x.0) xs)) (λ y xs. ⊤) s.ledger s.yard s.run

-- a report is of a legal journal of this plan whose run is over, and has just one result of each job that is to run
pub record IsReported (plan : Plan) (report : Report) : Type 0 where
  pub settings : Settings
  pub of_plan : settings.plan ≡ plan
  pub journal : List Entry
  pub legal : IsLegal settings journal
  pub over : outcome settings (past_of settings journal) ≡ Some report.outcome
  pub told : report.results ≡ filter_map job_result (told (past_of settings journal))
  pub once : (k : ℕ) → count_by (λ r. r.job == k) report.results ≡ one_if (is_to_run settings k)
