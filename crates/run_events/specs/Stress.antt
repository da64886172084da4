-- What remains of a stress run.
use Rattle.std.specs.Prelude.{ℕ, ◌-◌, nat_lt, if◌then◌else◌, Option, Some, None}
use Rattle.std.specs.Int.NonZero.{non_zero_u32_get}
use Rattle.run_commands.specs.declared.stress_count.StressCount.{StressCount}
use Rattle.run_commands.specs.declared.stress_count.StressCount.TheVariants as counts
use Rattle.run_events.specs.declared.stress.StressProgress.{StressProgress}
use Rattle.run_events.specs.declared.stress.StressProgress.TheVariants as progress
use Rattle.run_events.specs.declared.stress.StressRemaining.{StressRemaining}
use Rattle.run_events.specs.declared.stress.StressRemaining.TheVariants.{Runs, Infinite, Time}

-- how many sub-runs remain
abbrev pub runs_left : StressCount → ℕ → Option StressRemaining
runs_left counts.Infinite completed = Some Infinite
runs_left (counts.Count count) completed =
    if nat_lt completed (non_zero_u32_get count) then Some (Runs (non_zero_u32_get count - completed)) else None

-- what remains, where something does
abbrev pub remaining : StressProgress → Option StressRemaining
remaining (progress.Count total elapsed completed) = runs_left total completed
remaining (progress.Time total elapsed completed) =
    if nat_lt elapsed total then Some (Time (total - elapsed)) else None
