-- How it prints where a runner was named.
use Rattle.std.specs.Prelude.{ℕ, List, ◌++◌, codes}
use Rattle.run_commands.specs.declared.target_runner.CargoConfigSource.{CargoConfigSource}
use Rattle.run_commands.specs.declared.target_runner.CargoConfigSource.TheVariants as config
use Rattle.run_commands.specs.declared.target_runner.PlatformRunnerSource.{PlatformRunnerSource}
use Rattle.run_commands.specs.declared.target_runner.PlatformRunnerSource.TheVariants as named

-- which configuration of Cargo it is
abbrev pub config_text : CargoConfigSource → List ℕ
config_text config.CliOption = codes "specified by `--config`"
config_text (config.File path) = codes "within `" ++ (path ++ codes "`")

-- where the runner was named
abbrev pub source_text : PlatformRunnerSource → List ℕ
source_text (named.Env name) = codes "environment variable `" ++ (name ++ codes "`")
source_text (named.CargoConfig source table) = codes "`target." ++ (table ++ (codes ".runner` " ++ config_text source))
