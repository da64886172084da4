-- The outcome of a run, by what was told.
use Rattle.std.specs.Prelude.{◌≡◌, List, [], ◌∷◌, map, count_by, filter_map, if◌then◌else◌, Option, Some, None}
use Rattle.run_events.specs.Outcome.{outcome_of, summary}
use Rattle.run_events.specs.declared.events.ReporterEvent.{ReporterEvent}
use Rattle.run_events.specs.declared.outcome.FinalRunStats.{FinalRunStats}
use Rattle.run_events.specs.declared.outcome.RunOutcome.{RunOutcome}
use Rattle.run_events.specs.declared.settings.Settings.{Settings}
use Rattle.run_events.specs.declared.stats.RunStats.{RunStats}
use Rattle.run_model.specs.declared.entry.Entry.{Entry}
use Rattle.run_model.specs.Journal.{IsLegal, outcome, past_of}
use Rattle.run_model.specs.SubRuns.{outcome_with}
use Rattle.run_model.specs.Words.{ended_runs, finish_of, is_over, skips, stats_after, told}
use Rattle.run_laws_calls.specs.Stops.{latest_reason}

-- the statistics counted over events; and how a sub-run with these events ends, and its outcome, by that
abbrev pub counted_told : Settings → List ReporterEvent → RunStats
counted_told p events =
    stats_after p (latest_reason events) (count_by skips events) (filter_map finish_of events)

abbrev pub summary_told : Settings → List ReporterEvent → FinalRunStats
summary_told p events = summary (counted_told p events)

abbrev pub outcome_told : Settings → List ReporterEvent → RunOutcome
outcome_told p events = outcome_of (summary_told p events)

-- the outcome that the events of some sub-runs tell, those of the newest first: that of each, put together with that of
-- those before it
abbrev pub outcomes_told : Settings → List (List ReporterEvent) → Option RunOutcome
outcomes_told p [] = None
outcomes_told p (events ∷ earlier) = Some (outcome_with (outcomes_told p earlier) (outcome_told p events))

-- where the run of a legal journal is over, its outcome is the one that the events of its sub-runs tell; else it has
-- none
abbrev pub OutcomesAreTold : Type 0
OutcomesAreTold = (p : Settings) (journal : List Entry) → IsLegal p journal
    → outcome p (past_of p journal)
    ≡ (if is_over (past_of p journal) then outcomes_told p (map told (ended_runs (past_of p journal))) else None)

-- where it is no stress run, that is the one that all its events tell
abbrev pub OneOutcomeIsTold : Type 0
OneOutcomeIsTold = (p : Settings) (journal : List Entry) → p.stress ≡ None → IsLegal p journal
    → outcome p (past_of p journal)
    ≡ (if is_over (past_of p journal) then Some (outcome_told p (told (past_of p journal))) else None)
