-- Why an input of jobs is refused.
use Rattle.std.specs.Prelude.{ℕ, List, ⊤}
use Rattle.run_input.specs.declared.errors.InputError.{InputError}
use Rattle.run_input.specs.declared.errors.InputError.TheVariants as input
use Rattle.run_jobs_cli.specs.WaveLines.{IsFirstBadAfter, IsFirstBadJobs}

-- lines after the first are refused for the first of them that says nothing, or for want of memory
abbrev pub IsRefusedWaves : List (List ℕ) → InputError → Type 0
IsRefusedWaves others (input.Line number) = IsFirstBadAfter others number
IsRefusedWaves others input.OutOfMemory = ⊤

-- so is an input
abbrev pub IsRefusedJobs : List (List ℕ) → InputError → Type 0
IsRefusedJobs lines (input.Line number) = IsFirstBadJobs lines number
IsRefusedJobs lines input.OutOfMemory = ⊤
