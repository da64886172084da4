use Rattle.std.proofs.Common.{ℕ, ◌≡◌, [], get_or, take}
use Rattle.run_jobs.specs.Levels.{at_level}
use Rattle.run_jobs.proofs.levels.waves_of.Given as goal

abbrev pub invariant-loop-job : goal.invariant-loop-job
invariant-loop-job l = (w : ℕ) → get_or l.waves.items w [] ≡ at_level w 0 (take l.job l.levels)
