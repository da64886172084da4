-- How reading a script's environment file ends.
use Rattle.std.specs.Prelude.{ℕ, Bool, false, is_none, ◌≤◌, ◌<◌, List, length, Some, None, Result, Ok, Err, ⊤}
use Rattle.std.specs.Str.Lines.{lines}
use Rattle.run_capture.specs.declared.reading.ReadError.{ReadError}
use Rattle.run_capture.specs.declared.reading.ReadError.TheVariants as reading
use Rattle.run_commands.specs.declared.errors.SetupScriptOutputError.{SetupScriptOutputError}
use Rattle.run_commands.specs.declared.errors.SetupScriptOutputError.TheVariants as errors
use Rattle.run_commands.specs.EnvText.{IsRefusedEnv}

-- the most bytes that an environment file may have
abbrev pub env_file_limit : ℕ
env_file_limit = 1048576

-- the error of a file that wasn't read to its end
abbrev pub error_for : ReadError → SetupScriptOutputError
error_for reading.Failed = errors.EnvFileRead None
error_for reading.TooLong = errors.EnvFileTooLong
error_for reading.OutOfMemory = errors.OutOfMemory

-- a file's bytes are refused as a text is, where they are all that the source had, and no more than the
-- limit
pub record IsRefusedWhole (ended : Type 0) (taken : List ℕ) (e : SetupScriptOutputError) : Type 0 where
  pub whole : ended
  pub within : length taken ≤ env_file_limit
  pub text : IsRefusedEnv (lines taken) e

-- why a file is refused, of which these bytes were taken
abbrev pub IsRefusedFile : Type 0 → List ℕ → SetupScriptOutputError → Type 0
IsRefusedFile ended taken (errors.EnvFileRead None) = length taken ≤ env_file_limit
IsRefusedFile ended taken (errors.EnvFileRead (Some line)) = IsRefusedWhole ended taken (errors.EnvFileRead (Some line))
IsRefusedFile ended taken (errors.EnvFileParse line) = IsRefusedWhole ended taken (errors.EnvFileParse line)
IsRefusedFile ended taken (errors.EnvFileInvalidKey line) = IsRefusedWhole ended taken (errors.EnvFileInvalidKey line)
IsRefusedFile ended taken errors.EnvFileTooLong = env_file_limit < length taken
IsRefusedFile ended taken errors.EnvFileOpen = ⊥
IsRefusedFile ended taken errors.OutOfMemory = ⊤

-- whether reading the file failed: then no line is blamed for it
abbrev pub is_unread : {T : Type 0} → Result T SetupScriptOutputError → Bool
is_unread (Ok _) = false
is_unread (Err (errors.EnvFileRead line)) = is_none line
is_unread (Err _) = false
