-- What is compared of a status: its result, what it wrote, its errors and its time, each as its object has it.
use Rattle.std.specs.Prelude.{List, [], ◌∷◌, ℕ, Option, map, option_map, codes}
use Rattle.serde_json.specs.Data.{Data}
use Rattle.serde_json.specs.Find.{get}
use Rattle.run_events.specs.declared.result.ExecuteStatus.{ExecuteStatus}
use Rattle.run_events.specs.declared.result.ScriptEnv.{ScriptEnv}
use Rattle.run_input.specs.ValueOf.{json_value}
use Rattle.run_output.specs.Statuses.{status_data, script_status_data}

-- the keys that are compared
abbrev pub compared_keys : List (List ℕ)
compared_keys = codes "result" ∷ codes "stdout" ∷ codes "stderr" ∷ codes "combined" ∷ codes "errors"
    ∷ codes "start_error" ∷ codes "time" ∷ []

-- what stands at them; nothing of a text that is no object
abbrev pub Compared : Type 0
Compared = Option (List (Option Data))

abbrev pub compared_in : Data → List (Option Data)
compared_in d = map (λ key. get key d) compared_keys

abbrev pub compared : List ℕ → Compared
compared text = option_map compared_in (json_value text)

-- that of a test's attempt
abbrev pub due_status : ExecuteStatus → Compared
due_status status = Option.Some (compared_in (status_data status))

-- and that of a script's one attempt, with what came of its environment file
abbrev pub due_script_status : ExecuteStatus → ScriptEnv → Compared
due_script_status status env = Option.Some (compared_in (script_status_data (record {
  result = status.result;
  output = status.output;
  slow = status.slow;
  start = status.start;
  time = status.time;
  env = env;
})))
