-- What jobs keep beside their list.
use Rattle.std.specs.Prelude.{ℕ, ◌≡◌, ◌<◌, ◌^◌, List, [], length, get_or, None}
use Rattle.run_jobs.specs.declared.job.Job.{Job}
use Rattle.run_jobs.specs.Jobs.{jobs_fault}
use Rattle.run_jobs.specs.Levels.{at_level, levels_of}

-- nothing is wrong with the jobs, these are their levels, and these the jobs of each level
pub record AreKeptJobs (threads : ℕ) (jobs : List Job) (levels : List ℕ) (waves : List (List ℕ)) : Type 0 where
  pub few : length jobs < 2 ^ 32
  pub sound : jobs_fault threads jobs ≡ None
  pub level_of_each : levels ≡ levels_of jobs
  pub of_level : (w : ℕ) → get_or waves w [] ≡ at_level w 0 levels
