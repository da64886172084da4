-- Attempts as objects.
use Rattle.std.specs.Prelude.{ℕ, List, [], ◌∷◌, ◌++◌, Option, Some, None, option_map, codes}
use Rattle.serde_json.specs.Data.{Data, boolean, string}
use Rattle.run_capture.specs.declared.test_output.ChildOutput.TheVariants.{Split, Combined}
use Rattle.run_commands.specs.declared.errors.SetupScriptOutputError.{SetupScriptOutputError}
use Rattle.run_events.specs.declared.result.ChildExecutionOutput.{ChildExecutionOutput}
use Rattle.run_events.specs.declared.result.ChildExecutionOutput.TheVariants.{Output, StartError}
use Rattle.run_events.specs.declared.result.ExecuteStatus.{ExecuteStatus}
use Rattle.run_events.specs.declared.result.ScriptEnv.{ScriptEnv}
use Rattle.run_events.specs.declared.result.ScriptEnv.TheVariants.{Unread, Variables, Fault}
use Rattle.run_events.specs.declared.result.SetupScriptExecuteStatus.{SetupScriptExecuteStatus}
use Rattle.run_output.specs.Fields.{count, pair, array_of, object_of}
use Rattle.run_output.specs.Texts.{bytes_data, result_text}
use Rattle.run_output.specs.Errors.{child_errors, fault_errors, errors_data}

-- each stream that was captured, under its name; of a child that wasn't started, the error of its start
unfoldable pub stream_fields : ChildExecutionOutput → List (List ℕ × Option Data)
stream_fields (Output (Split split) errors) =
    (codes "stderr", option_map bytes_data split.stderr)
    ∷ (codes "stdout", option_map bytes_data split.stdout)
    ∷ []
stream_fields (Output (Combined output) errors) = (codes "combined", Some (bytes_data output)) ∷ []
stream_fields (StartError error) = (codes "start_error", Some (string error)) ∷ []

-- an attempt of a test by itself
unfoldable pub attempt_fields : ExecuteStatus → List (List ℕ × Option Data)
attempt_fields status =
    (codes "attempt", Some (count status.attempt))
    ∷ (codes "attempts", Some (count status.attempts))
    ∷ (codes "delay", Some (count status.delay))
    ∷ (codes "errors", errors_data (child_errors status.output))
    ∷ (codes "result", Some (string (result_text status.result)))
    ∷ (codes "slow", Some (boolean status.slow))
    ∷ (codes "start", Some (count status.start))
    ∷ (codes "time", Some (count status.time))
    ∷ []

-- with what its child wrote
abbrev pub status_data : ExecuteStatus → Data
status_data status = object_of (attempt_fields status ++ stream_fields status.output)

-- the variables of an environment file, where there are some
abbrev pub env_data : ScriptEnv → Option Data
env_data Unread = None
env_data (Variables pairs) = Some (array_of pair pairs)
env_data (Fault fault) = None

-- its fault
abbrev pub fault_of : ScriptEnv → Option SetupScriptOutputError
fault_of Unread = None
fault_of (Variables pairs) = None
fault_of (Fault fault) = Some fault

-- the attempt of a setup script by itself
unfoldable pub script_fields : SetupScriptExecuteStatus → List (List ℕ × Option Data)
script_fields status =
    (codes "env", env_data status.env)
    ∷ (codes "errors", errors_data (child_errors status.output ++ fault_errors (fault_of status.env)))
    ∷ (codes "result", Some (string (result_text status.result)))
    ∷ (codes "slow", Some (boolean status.slow))
    ∷ (codes "start", Some (count status.start))
    ∷ (codes "time", Some (count status.time))
    ∷ []

-- with what its child wrote
abbrev pub script_status_data : SetupScriptExecuteStatus → Data
script_status_data status = object_of (script_fields status ++ stream_fields status.output)
