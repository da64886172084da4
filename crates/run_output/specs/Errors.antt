-- The errors of an attempt as texts.
use Rattle.std.specs.Prelude.{ℕ, List, [], ◌∷◌, ◌++◌, Option, Some, None, map, codes}
use Rattle.serde_json.specs.Data.{Data, string}
use Rattle.run_capture.specs.declared.test_output.ChildFdError.{ChildFdError}
use Rattle.run_capture.specs.declared.test_output.ChildFdError.TheVariants.{ReadStdout, ReadStderr, ReadCombined, Wait}
use Rattle.run_commands.specs.declared.errors.SetupScriptOutputError.{SetupScriptOutputError}
use Rattle.run_commands.specs.declared.errors.SetupScriptOutputError.TheVariants.{EnvFileRead, EnvFileParse}
use Rattle.run_commands.specs.declared.errors.SetupScriptOutputError.TheVariants.{EnvFileInvalidKey, EnvFileTooLong}
use Rattle.run_commands.specs.declared.errors.SetupScriptOutputError.TheVariants.{EnvFileOpen, OutOfMemory}
use Rattle.run_events.specs.declared.result.ChildExecutionOutput.{ChildExecutionOutput}
use Rattle.run_events.specs.declared.result.ChildExecutionOutput.TheVariants.{Output, StartError}
use Rattle.run_output.specs.Fields.{array_unless_empty}

-- an error, after the word for where it came up
unfoldable pub error_text : ChildFdError → List ℕ
error_text (ReadStdout text) = codes "stdout: " ++ text
error_text (ReadStderr text) = codes "stderr: " ++ text
error_text (ReadCombined text) = codes "combined: " ++ text
error_text (Wait text) = codes "wait: " ++ text

-- the fault of a script's environment file
unfoldable pub env_fault_text : SetupScriptOutputError → List ℕ
env_fault_text EnvFileOpen = codes "env: open"
env_fault_text (EnvFileRead line) = codes "env: read"
env_fault_text EnvFileTooLong = codes "env: read"
env_fault_text OutOfMemory = codes "env: read"
env_fault_text (EnvFileParse line) = codes "env: parse"
env_fault_text (EnvFileInvalidKey line) = codes "env: key"

-- the errors of a child, in order; of one that wasn't started, none
abbrev pub child_errors : ChildExecutionOutput → List (List ℕ)
child_errors (Output output errors) = map error_text errors
child_errors (StartError error) = []

-- that of its environment file
abbrev pub fault_errors : Option SetupScriptOutputError → List (List ℕ)
fault_errors None = []
fault_errors (Some fault) = env_fault_text fault ∷ []

-- errors, left out where there is none
abbrev pub errors_data : List (List ℕ) → Option Data
errors_data errors = array_unless_empty (map string errors)
