-- The fields of the events of setup scripts. The unit's number isn't printed.
use Rattle.std.specs.Prelude.{ℕ, List, [], ◌∷◌, Option, Some, option_map, codes}
use Rattle.serde_json.specs.Data.{Data, boolean, string}
use Rattle.run_events.specs.declared.message.ScriptFinish.{ScriptFinish}
use Rattle.run_events.specs.declared.message.ScriptSlow.{ScriptSlow}
use Rattle.run_events.specs.declared.message.ScriptStart.{ScriptStart}
use Rattle.run_output.specs.Fields.{count, texts}
use Rattle.run_output.specs.Statuses.{script_status_data}
use Rattle.run_output.specs.Stress.{index_data}

-- a setup script started
unfoldable pub script_started_fields : ScriptStart → List (List ℕ × Option Data)
script_started_fields event =
    (codes "command", Some (texts event.command))
    ∷ (codes "index", Some (count event.script.index))
    ∷ (codes "no_capture", Some (boolean event.script.no_capture))
    ∷ (codes "script", Some (string event.script.id))
    ∷ (codes "stress_index", option_map index_data event.script.stress_index)
    ∷ (codes "total", Some (count event.script.total))
    ∷ []

-- a setup script is slow
unfoldable pub script_slow_fields : ScriptSlow → List (List ℕ × Option Data)
script_slow_fields event =
    (codes "elapsed_slow", Some (count event.elapsed_slow))
    ∷ (codes "script", Some (string event.script.id))
    ∷ (codes "stress_index", option_map index_data event.script.stress_index)
    ∷ (codes "terminates", Some (boolean event.terminates))
    ∷ []

-- a setup script finished
unfoldable pub script_finished_fields : ScriptFinish → List (List ℕ × Option Data)
script_finished_fields event =
    (codes "index", Some (count event.script.index))
    ∷ (codes "no_capture", Some (boolean event.script.no_capture))
    ∷ (codes "script", Some (string event.script.id))
    ∷ (codes "status", Some (script_status_data event.status))
    ∷ (codes "stress_index", option_map index_data event.script.stress_index)
    ∷ (codes "total", Some (count event.script.total))
    ∷ []
