-- The runners of the two platforms, and the parts of one.
use Rattle.std.specs.Prelude.{ℕ, List, Option, None}
use Rattle.run_commands.specs.declared.target_runner.BuildPlatform.{BuildPlatform}
use Rattle.run_commands.specs.declared.target_runner.BuildPlatform.TheVariants as built_for
use Rattle.run_commands.specs.declared.target_runner.TargetRunner.{TargetRunner}
use Rattle.run_commands.specs.declared.target_runner.PlatformRunner.{PlatformRunner}
use Rattle.run_commands.specs.declared.target_runner.PlatformRunnerSource.{PlatformRunnerSource}
use Rattle.run_commands.specs.declared.target_runner.RunnerArgs.{RunnerArgs}

-- no runner on either platform
abbrev pub no_runners : TargetRunner
no_runners = record { host = None; target = None }

-- the runner of a platform, where there is one
abbrev pub runner_for : TargetRunner → BuildPlatform → Option PlatformRunner
runner_for runners built_for.Target = runners.target
runner_for runners built_for.Host = runners.host

-- these runners, of the host and of the target
abbrev pub runners_with : Option PlatformRunner → Option PlatformRunner → TargetRunner
runners_with host target = record { host = host; target = target }

-- a runner of these parts
abbrev pub runner_with : List ℕ → List (List ℕ) → PlatformRunnerSource → PlatformRunner
runner_with binary args source = record { runner_binary = binary; args = args; source = source }

-- a runner's program
abbrev pub binary_of : PlatformRunner → List ℕ
binary_of runner = runner.runner_binary

-- a runner's arguments
abbrev pub args_of : PlatformRunner → List (List ℕ)
args_of runner = runner.args

-- where a runner was named
abbrev pub source_of : PlatformRunner → PlatformRunnerSource
source_of runner = runner.source

-- the arguments that an iterator has left
abbrev pub args_left : RunnerArgs → List (List ℕ)
args_left args = args.rest.now
