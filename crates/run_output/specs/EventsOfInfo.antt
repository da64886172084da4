-- The fields of the events of information rounds.
use Rattle.std.specs.Prelude.{ℕ, List, [], ◌∷◌, Option, Some, option_map, codes}
use Rattle.serde_json.specs.Data.{Data, string}
use Rattle.run_events.specs.declared.events.InfoAnswered.{InfoAnswered}
use Rattle.run_events.specs.declared.events.InfoStarted.{InfoStarted}
use Rattle.run_events.specs.declared.info.InfoSubject.{InfoSubject}
use Rattle.run_events.specs.declared.info.InfoSubject.TheVariants.{Test, Script}
use Rattle.run_output.specs.Fields.{count}
use Rattle.run_output.specs.Info.{state_data, shown_data}
use Rattle.run_output.specs.Stats.{stats_data}
use Rattle.run_output.specs.Stress.{index_data}
use Rattle.run_output.specs.Texts.{test_data}

-- an information round started
unfoldable pub info_started_fields : InfoStarted → List (List ℕ × Option Data)
info_started_fields event =
    (codes "running", Some (count event.running))
    ∷ (codes "stats", Some (stats_data event.stats))
    ∷ (codes "total", Some (count event.total))
    ∷ []

-- which unit answers
unfoldable pub subject_fields : InfoSubject → List (List ℕ × Option Data)
subject_fields (Test test attempt attempts) =
    (codes "attempt", Some (count attempt))
    ∷ (codes "attempts", Some (count attempts))
    ∷ (codes "stress_index", option_map index_data test.stress_index)
    ∷ (codes "test", Some (test_data test.id))
    ∷ []
subject_fields (Script script) =
    (codes "script", Some (string script.id))
    ∷ (codes "stress_index", option_map index_data script.stress_index)
    ∷ []

-- a unit's answer
unfoldable pub info_answered_fields : InfoAnswered → List (List ℕ × Option Data)
info_answered_fields event =
    (codes "index", Some (count event.index))
    ∷ (codes "output", Some (shown_data event.response.state event.response.output))
    ∷ (codes "state", Some (state_data event.response.state))
    ∷ (codes "total", Some (count event.total))
    ∷ subject_fields event.response.subject

-- the information round ended, and so many units gave no answer
unfoldable pub info_finished_fields : ℕ → List (List ℕ × Option Data)
info_finished_fields missing = (codes "missing", Some (count missing)) ∷ []
