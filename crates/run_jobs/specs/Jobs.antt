-- Lists of jobs, and what is wrong with one.
use Rattle.std.specs.Prelude.{ℕ, ◌≡◌, ◌==◌, List, [], ◌∷◌, ◌++◌, length, slice_get, nat_eq, nat_lt, Bool}
use Rattle.std.specs.Prelude.{if◌then◌else◌, Option, Some, None, option_map, Result, Ok, Err, ⊤}
use Rattle.std.specs.List.{list_any}
use Rattle.std.specs.Option.{option_or, option_map_or}
use lib.Pointwise.{pointwise}
use Rattle.run_jobs.specs.declared.job.Job.{Job}
use Rattle.run_jobs.specs.declared.job.JobsError.{JobsError}
use Rattle.run_jobs.specs.declared.job.JobsError.TheVariants.{ZeroThreads, DuplicateName, BadAfter, OutOfMemory}

-- jobs, with the id of their run, and how many may run at a time
pub record Batch : Type 0 where
  pub run_id : List ℕ
  pub threads : ℕ
  pub jobs : List Job

-- the jobs that a job waits for
abbrev pub after_of : List Job → ℕ → List ℕ
after_of jobs k = option_map_or (λ job. job.after) (slice_get jobs k) []

-- whether one of some jobs has this name
abbrev pub has_job : List Job → List ℕ → Bool
has_job jobs name = list_any (λ job. pointwise nat_eq job.name name) jobs

-- the first of these that isn't below a number
abbrev pub first_not_below : ℕ → List ℕ → Option ℕ
first_not_below k [] = None
first_not_below k (a ∷ after) = if nat_lt a k then first_not_below k after else Some a

-- what is wrong with the job of a number, where something is: it repeats a name, or else it waits for one that isn't
-- before it
abbrev pub fault_here : ℕ → Bool → List ℕ → Option JobsError
fault_here k repeats after =
    if repeats then Some (DuplicateName k) else option_map (BadAfter k) (first_not_below k after)

-- what is wrong with the job after these, where something is
abbrev pub job_fault : List Job → Job → Option JobsError
job_fault before job = fault_here (length before) (has_job before job.name) job.after

-- the same of the first of the jobs after these with which something is wrong
abbrev pub first_fault : List Job → List Job → Option JobsError
first_fault before [] = None
first_fault before (job ∷ jobs) = option_or (job_fault before job) (first_fault (before ++ job ∷ []) jobs)

-- what is wrong with jobs of which so many may run at a time, where something is
abbrev pub jobs_fault : ℕ → List Job → Option JobsError
jobs_fault threads jobs = if threads == 0 then Some ZeroThreads else first_fault [] jobs

-- jobs are taken exactly where nothing is wrong with them
abbrev pub IsBatch : List ℕ → ℕ → List Job → Result Batch JobsError → Type 0
IsBatch run_id threads jobs (Ok batch) =
    (jobs_fault threads jobs ≡ None) × (batch ≡ record { run_id = run_id; threads = threads; jobs = jobs })
IsBatch run_id threads jobs (Err OutOfMemory) = ⊤
IsBatch run_id threads jobs (Err e) = jobs_fault threads jobs ≡ Some e
