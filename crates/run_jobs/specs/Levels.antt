-- The levels of jobs.
use Rattle.std.specs.Prelude.{ℕ, zero, suc, max, ◌<◌, ◌≤◌, ◌==◌, List, [], ◌∷◌, ◌++◌, length, get_or, if◌then◌else◌}
use Rattle.std.specs.List.{All}
use Rattle.run_jobs.specs.declared.job.Job.{Job}
use Rattle.run_jobs.specs.Jobs.{after_of}

-- the level of a job that waits for these, by the levels of the jobs before it: 0 where it waits for none, else one
-- more than the greatest of theirs
abbrev pub level_after : List ℕ → List ℕ → ℕ
level_after levels [] = 0
level_after levels (a ∷ after) = max (suc (get_or levels a 0)) (level_after levels after)

-- the levels of the first n jobs
abbrev pub first_levels : List Job → ℕ → List ℕ
first_levels jobs zero = []
first_levels jobs (suc n) = first_levels jobs n ++ level_after (first_levels jobs n) (after_of jobs n) ∷ []

-- the level of each job
abbrev pub levels_of : List Job → List ℕ
levels_of jobs = first_levels jobs (length jobs)

abbrev pub job_level : List Job → ℕ → ℕ
job_level jobs k = get_or (levels_of jobs) k 0

-- of some levels, of which the first is that of job k, the jobs that have this level, in order
abbrev pub at_level : ℕ → ℕ → List ℕ → List ℕ
at_level level k [] = []
at_level level k (l ∷ levels) =
    if l == level then k ∷ at_level level (suc k) levels else at_level level (suc k) levels

-- each job waits for jobs of lower numbers
abbrev pub AreOrdered : List Job → Type 0
AreOrdered jobs = (k : ℕ) → All (λ a. a < k) (after_of jobs k)

-- the level of each job is its number at most
abbrev pub AreLow : List ℕ → Type 0
AreLow levels = (k : ℕ) → get_or levels k 0 ≤ k
