-- The report of a run that is over, by the law that nothing stops without a cause.
use Rattle.std.proofs.Common.{◌≡◌, ◌∙◌, List, count_by, false, ◌==◌, ap, sym}
use Rattle.std.specs.List.{list_any}
use Rattle.run_events.specs.declared.events.ReporterEvent.{ReporterEvent}
use Rattle.run_model.specs.Words.{told}
use Rattle.run_engine.specs.World.{World, history_of}
use Rattle.run_laws.proofs.told.Outcomes.{over_is}
use Rattle.run_laws_calls.specs.Stops.{tells_cancel}
use Rattle.example_supervisor.specs.Reported.{ledger_of}
use Rattle.example_supervisor.proofs.Heard.{results-finishes, told_is}
use Rattle.example_supervisor.proofs.supervisor.Supervisor.report.Goals as goal

pub returns : goal.returns
returns c =
    let run : World = c.run_jobs.new.self.run in
    let events : List ReporterEvent = told (history_of run) in
    let grown = c.in_ok-run_jobs.ensures.grows in
    let legal = c.in-Some-false.ensures.runnable.legal in
    let is : c.run_jobs.new.self.ledger ≡ ledger_of events =
    told_is c.run_jobs.new.self c.in_ok-run_jobs.ensures.told
    (ap (λ (w : World). w.broken) grown ∙ c.requires.sound) legal in
    let over = sym c.in-Some-false.ensures.outcome in
    let calm : list_any tells_cancel events ≡ false = sym (ap (λ l. l.cancelled) is) ∙ c.in-Some-false.is-1 in
    let single = ap (λ (w : World). w.settings.stress) grown ∙ c.requires.single in
    let once = c.nothing_stops_without_a_cause.ensures.one run.settings run.journal single legal
    (over_is run.settings (history_of run) c.in-Some-false.outcome over) calm in
    let results = c.replace-results.ensures.value ∙ ap (λ l. l.results) is in
    record {
      settings = run.settings;
      of_plan = ap (λ (w : World). w.settings.plan) grown;
      journal = run.journal;
      legal = legal;
      over = over;
      told = results;
      once = λ k. ap (count_by (λ r. r.job == k)) results ∙ results-finishes k events ∙ (once k).finishes;
    }
