-- What belongs to a stress run as objects.
use Rattle.std.specs.Prelude.{ℕ, List, [], ◌∷◌, Option, Some, option_map, codes}
use Rattle.serde_json.specs.Data.{Data, string}
use Rattle.run_commands.specs.declared.stress_count.StressCondition.{StressCondition}
use Rattle.run_commands.specs.declared.stress_count.StressCondition.TheVariants as condition
use Rattle.run_events.specs.declared.outcome.FinalRunStats.{FinalRunStats}
use Rattle.run_events.specs.declared.outcome.FinalRunStats.TheVariants.{Success, NoTestsRun, Cancelled, Failed}
use Rattle.run_events.specs.declared.stress.StressIndex.{StressIndex}
use Rattle.run_events.specs.declared.stress.StressProgress.{StressProgress}
use Rattle.run_events.specs.declared.stress.StressProgress.TheVariants as progress
use Rattle.run_events.specs.declared.stress.StressRunStats.{StressRunStats}
use Rattle.run_output.specs.Fields.{count, object_of}
use Rattle.run_output.specs.Texts.{runs_text}

-- when a stress run ends
unfoldable pub condition_fields : StressCondition → List (List ℕ × Option Data)
condition_fields (condition.Count runs) = (codes "count", Some (string (runs_text runs))) ∷ []
condition_fields (condition.Duration time) = (codes "duration", Some (count time)) ∷ []

-- the object
abbrev pub condition_data : StressCondition → Data
condition_data condition = object_of (condition_fields condition)

-- which sub-run it is, and of how many where that is a finite count
unfoldable pub index_fields : StressIndex → List (List ℕ × Option Data)
index_fields index =
    (codes "current", Some (count index.current))
    ∷ (codes "total", option_map count index.total)
    ∷ []

-- the object
abbrev pub index_data : StressIndex → Data
index_data index = object_of (index_fields index)

-- how many sub-runs have ended, and how long they took
unfoldable pub progress_fields : StressProgress → List (List ℕ × Option Data)
progress_fields (progress.Count total elapsed completed) =
    (codes "completed", Some (count completed)) ∷ (codes "elapsed", Some (count elapsed)) ∷ []
progress_fields (progress.Time total elapsed completed) =
    (codes "completed", Some (count completed)) ∷ (codes "elapsed", Some (count elapsed)) ∷ []

-- the object
abbrev pub progress_data : StressProgress → Data
progress_data progress = object_of (progress_fields progress)

-- a summary by its word
unfoldable pub last_word : FinalRunStats → List ℕ
last_word Success = codes "success"
last_word NoTestsRun = codes "no-tests-run"
last_word (Failed step) = codes "failed"
last_word (Cancelled reason step) = codes "cancelled"

-- how the sub-runs ended
unfoldable pub ended_fields : StressRunStats → List (List ℕ × Option Data)
ended_fields stats =
    (codes "failed_count", Some (count stats.failed_count))
    ∷ (codes "last", Some (string (last_word stats.last_final_stats)))
    ∷ (codes "success_count", Some (count stats.success_count))
    ∷ []

-- the object of a stress run's statistics
abbrev pub stress_stats_data : StressRunStats → Data
stress_stats_data stats =
    object_of ((codes "completed", Some (index_data stats.completed)) ∷ ended_fields stats)
