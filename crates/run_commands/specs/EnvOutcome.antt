-- What comes of a script's environment file.
use Rattle.std.specs.Prelude.{◌≡◌, List, None, Result, Err, MatchResult}
use Rattle.std.specs.Str.Lines.{lines}
use Rattle.run_commands.specs.declared.errors.SetupScriptOutputError.{SetupScriptOutputError}
use Rattle.run_commands.specs.declared.errors.SetupScriptOutputError.TheVariants as errors
use Rattle.run_commands.specs.declared.script_helpers.EnvInput.{EnvInput}
use Rattle.run_commands.specs.declared.script_helpers.EnvInput.TheVariants as input
use Rattle.run_commands.specs.Pair.{Pair}
use Rattle.run_commands.specs.EnvText.{IsEnvOf, IsRefusedEnv}

-- the bytes give what they say or are refused for; what was not read gives its own error
abbrev pub IsOutcome : EnvInput → Result (List Pair) SetupScriptOutputError → Type 0
IsOutcome (input.Bytes bytes) result = MatchResult result (IsEnvOf bytes) (IsRefusedEnv (lines bytes))
IsOutcome input.OpenFailed result = result ≡ Err errors.EnvFileOpen
IsOutcome input.ReadFailed result = result ≡ Err (errors.EnvFileRead None)
