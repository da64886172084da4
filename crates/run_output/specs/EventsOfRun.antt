-- The fields of the events of a run.
use Rattle.std.specs.Prelude.{ℕ, List, [], ◌∷◌, Option, Some, None, option_map, codes}
use Rattle.serde_json.specs.Data.{Data, string}
use Rattle.uuid.specs.Text.{hyphenated_text, lower}
use Rattle.run_events.specs.declared.events.InputEntered.{InputEntered}
use Rattle.run_events.specs.declared.events.JobControlled.{JobControlled}
use Rattle.run_events.specs.declared.events.RunCancelled.{RunCancelled}
use Rattle.run_events.specs.declared.events.RunStarted.{RunStarted}
use Rattle.run_events.specs.declared.events.RunFinished.{RunFinished}
use Rattle.run_events.specs.declared.events.SubRunFinished.{SubRunFinished}
use Rattle.run_events.specs.declared.events.RunFinishedStats.{RunFinishedStats}
use Rattle.run_events.specs.declared.events.RunFinishedStats.TheVariants.{Single, Stress}
use Rattle.run_events.specs.declared.stress.StressProgress.{StressProgress}
use Rattle.run_output.specs.Field.{not_seen_data}
use Rattle.run_output.specs.Fields.{count, texts}
use Rattle.run_output.specs.Stats.{stats_data}
use Rattle.run_output.specs.Stress.{condition_data, progress_data, stress_stats_data}

-- the run started
unfoldable pub run_started_fields : RunStarted → List (List ℕ × Option Data)
run_started_fields event =
    (codes "args", Some (texts event.args))
    ∷ (codes "profile", Some (string event.profile))
    ∷ (codes "run_id", Some (string (hyphenated_text lower event.run_id)))
    ∷ (codes "stress", option_map condition_data event.stress)
    ∷ (codes "tests", Some (count event.tests))
    ∷ []

-- a sub-run of a stress run started
unfoldable pub sub_run_started_fields : StressProgress → List (List ℕ × Option Data)
sub_run_started_fields progress = (codes "progress", Some (progress_data progress)) ∷ []

-- a sub-run of a stress run ended
unfoldable pub sub_run_finished_fields : SubRunFinished → List (List ℕ × Option Data)
sub_run_finished_fields event =
    (codes "progress", Some (progress_data event.progress))
    ∷ (codes "stats", Some (stats_data event.stats))
    ∷ (codes "sub_elapsed", Some (count event.sub_elapsed))
    ∷ []

-- counts as they are
unfoldable pub input_entered_fields : InputEntered → List (List ℕ × Option Data)
input_entered_fields event =
    (codes "running", Some (count event.running))
    ∷ (codes "stats", Some (stats_data event.stats))
    ∷ []

-- the run begins to be cancelled, or its units to be killed
unfoldable pub run_cancelled_fields : RunCancelled → List (List ℕ × Option Data)
run_cancelled_fields event =
    (codes "running", Some (count event.running))
    ∷ (codes "scripts_running", Some (count event.scripts_running))
    ∷ (codes "stats", Some (stats_data event.stats))
    ∷ []

-- the run was stopped, or goes on
unfoldable pub job_controlled_fields : JobControlled → List (List ℕ × Option Data)
job_controlled_fields event =
    (codes "running", Some (count event.running))
    ∷ (codes "scripts_running", Some (count event.scripts_running))
    ∷ []

-- the statistics of a run that has no sub-runs
abbrev pub single_data : RunFinishedStats → Option Data
single_data (Single stats) = Some (stats_data stats)
single_data (Stress stats) = None

-- those of one that has them
abbrev pub sub_runs_data : RunFinishedStats → Option Data
sub_runs_data (Single stats) = None
sub_runs_data (Stress stats) = Some (stress_stats_data stats)

-- the run finished
unfoldable pub run_finished_fields : RunFinished → List (List ℕ × Option Data)
run_finished_fields event =
    (codes "not_seen", option_map not_seen_data event.not_seen)
    ∷ (codes "stats", single_data event.stats)
    ∷ (codes "stress_stats", sub_runs_data event.stats)
    ∷ []
