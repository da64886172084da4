-- What is told of the sub-runs of a stress run as they end.
use Rattle.std.specs.Prelude.{ℕ, ◌≡◌, List, [], ◌∷◌, ◌++◌, length, count_by, Bool, false, ◌&&◌, not, Option, Some, None}
use Rattle.std.specs.Prelude.{IfSome, is_some}
use Rattle.std.specs.List.{All, list_any}
use Rattle.run_events.specs.declared.events.ReporterEvent.{ReporterEvent}
use Rattle.run_events.specs.declared.events.ReporterEvent.TheVariants.{Test}
use Rattle.run_events.specs.declared.events.RunFinishedStats.{RunFinishedStats}
use Rattle.run_events.specs.declared.events.RunFinishedStats.TheVariants.{Single, Stress}
use Rattle.run_events.specs.declared.events.SubRunFinished.{SubRunFinished}
use Rattle.run_events.specs.declared.events.TestEventKind.{TestEventKind}
use Rattle.run_events.specs.declared.events.TestEventKind.TheVariants.{RunFinished, StressSubRunFinished}
use Rattle.run_events.specs.declared.outcome.FinalRunStats.{FinalRunStats}
use Rattle.run_events.specs.declared.settings.Settings.{Settings}
use Rattle.run_events.specs.declared.stress.StressProgress.{StressProgress}
use Rattle.run_events.specs.declared.stress.StressProgress.TheVariants as progress
use Rattle.run_events.specs.declared.stress.StressRunStats.{StressRunStats}
use Rattle.run_model.specs.declared.entry.Entry.{Entry}
use Rattle.run_model.specs.declared.happening.Happening.{Happening}
use Rattle.run_model.specs.Journal.{IsLegal, past_of}
use Rattle.run_model.specs.SubRuns.{is_cancelled, is_failed}
use Rattle.run_model.specs.Turns.{happening}
use Rattle.run_model.specs.Words.{ended_runs, events_in, is_over, sub_run, told}
use Rattle.run_laws_calls.specs.Outcomes.{counted_told, summary_told}

-- what an event says of a sub-run that ended, if it tells that, and of all at the end of a stress run
abbrev pub sub_run_end_in : TestEventKind → Option SubRunFinished
sub_run_end_in (StressSubRunFinished finished) = Some finished
sub_run_end_in _ = None

abbrev pub sub_run_end : ReporterEvent → Option SubRunFinished
sub_run_end (Test event) = sub_run_end_in event.kind
sub_run_end _ = None

abbrev pub stress_said : RunFinishedStats → Option StressRunStats
stress_said (Single stats) = None
stress_said (Stress stats) = Some stats

abbrev pub stress_end_in : TestEventKind → Option StressRunStats
stress_end_in (RunFinished finished) = stress_said finished.stats
stress_end_in _ = None

abbrev pub stress_end : ReporterEvent → Option StressRunStats
stress_end (Test event) = stress_end_in event.kind
stress_end _ = None

-- how many sub-runs have ended, where a stress run is so far
abbrev pub runs_ended : StressProgress → ℕ
runs_ended (progress.Count total elapsed completed) = completed
runs_ended (progress.Time total elapsed completed) = completed

-- whether a sub-run that ended so passed: it neither failed nor was cancelled
abbrev pub is_passed : FinalRunStats → Bool
is_passed last = not (is_failed last) && not (is_cancelled last)

-- the end of a sub-run says how many have ended with it, and its statistics, counted over its events
pub record SaysSubRun (p : Settings) (past : List Happening) (said : SubRunFinished) : Type 0 where
  pub completed : runs_ended said.progress ≡ length (ended_runs past)
  pub stats : said.stats ≡ counted_told p (told (sub_run past))

-- the end of a stress run says how many sub-runs it had, how many of them passed and failed, each by its events, and
-- how the last one ended
pub record SaysSubRuns (p : Settings) (past : List Happening) (said : StressRunStats) : Type 0 where
  pub completed : said.completed.current ≡ length (ended_runs past)
  pub passed : said.success_count ≡ count_by (λ run. is_passed (summary_told p (told run))) (ended_runs past)
  pub failed : said.failed_count ≡ count_by (λ run. is_failed (summary_told p (told run))) (ended_runs past)
  pub last : said.last_final_stats ≡ summary_told p (told (sub_run past))

abbrev pub SaysItsEnds : Settings → List Happening → ReporterEvent → Type 0
SaysItsEnds p past e = IfSome (sub_run_end e) (SaysSubRun p past) × IfSome (stress_end e) (SaysSubRuns p past)

-- a turn after others tells the end of a sub-run exactly where it ends one of a stress run, and that of such a run
-- exactly where it ends that; each says what the history with this turn comes to
pub record TellsItsEnds (p : Settings) (past : List Happening) (x : Happening) : Type 0 where
  pub ends : list_any (λ e. is_some (sub_run_end e)) (events_in x) ≡ (is_some p.stress && x.ends)
  pub over : list_any (λ e. is_some (stress_end e)) (events_in x) ≡ (is_some p.stress && x.over)
  pub each : All (SaysItsEnds p (x ∷ past)) (events_in x)

-- that holds of each turn of every legal journal
abbrev pub SubRunsAreTold : Type 0
SubRunsAreTold = (p : Settings) (journal : List Entry) (e : Entry) → IsLegal p (journal ++ e ∷ [])
    → TellsItsEnds p (past_of p journal) (happening p (past_of p journal) e)

-- a sub-run that is cancelled is the last: none that has ended was, where the run isn't over
abbrev pub CancelledIsLast : Type 0
CancelledIsLast = (p : Settings) (journal : List Entry) → IsLegal p journal → is_over (past_of p journal) ≡ false
    → All (λ run. is_cancelled (summary_told p (told run)) ≡ false) (ended_runs (past_of p journal))
