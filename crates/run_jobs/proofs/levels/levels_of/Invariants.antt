use Rattle.std.proofs.Common.{◌≡◌}
use Rattle.run_jobs.specs.Levels.{AreLow, first_levels}
use Rattle.run_jobs.proofs.levels.levels_of.Given as goal

abbrev pub invariant-loop-job : goal.invariant-loop-job
invariant-loop-job l = record {
  levels : l.levels.items ≡ first_levels l.jobs l.job-index;
  small : AreLow l.levels.items;
}
