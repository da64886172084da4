-- What is known of the states of jobs, level by level.
use Rattle.std.specs.Prelude.{ℕ, ◌≡◌, ◌<◌, List, length, slice_get, Option, Some, None}
use Rattle.run_jobs.specs.declared.job.Job.{Job}
use Rattle.run_jobs.specs.declared.job.JobState.{JobState}
use Rattle.run_jobs.specs.declared.job.JobState.TheVariants.{Blocked, Cancelled}
use Rattle.run_jobs.specs.declared.ledger.Results.{Results}
use Rattle.run_jobs.specs.Ledgers.{state_kept}
use Rattle.run_jobs.specs.Levels.{job_level}
use Rattle.run_jobs.specs.States.{Wave, ready_state, states_after}

-- the state of a ready job, by the results of its wave, where that ran, and its number there
abbrev pub ready_kept : Option Results → ℕ → JobState
ready_kept None unit = Cancelled
ready_kept (Some results) unit = state_kept results unit

-- the state of a job, by the first that it waits for that didn't pass
abbrev pub state_kept_with : Option ℕ → Option Results → ℕ → JobState
state_kept_with (Some a) results unit = Blocked a
state_kept_with None results unit = ready_kept results unit

-- results give the states of the ready jobs of a level after waves
abbrev pub GivesResults : Option Results → List Wave → ℕ → Type 0
GivesResults results waves w = (unit : ℕ) → ready_kept results unit ≡ ready_state (slice_get waves w) unit

-- the states after waves are known of all jobs below a level
abbrev pub AreKnown : List Job → List Wave → List (Option JobState) → ℕ → Type 0
AreKnown jobs waves states w =
    (k : ℕ) → k < length jobs → job_level jobs k < w → slice_get states k ≡ slice_get (states_after jobs waves) k
