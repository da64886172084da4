-- The lines of the states of jobs, and their status.
use Rattle.std.specs.Prelude.{ℕ, ◌+◌, List, [], ◌∷◌, ◌++◌, Option, Some, None, slice_get, if◌then◌else◌, codes}
use Rattle.std.specs.List.{list_all}
use Rattle.std.specs.Option.{option_map_or}
use Rattle.serde_json.specs.Data.{string}
use Rattle.run_output.specs.Fields.{line_bytes, object_text}
use Rattle.run_jobs.specs.declared.job.Job.{Job}
use Rattle.run_jobs.specs.declared.job.JobState.{JobState}
use Rattle.run_jobs.specs.declared.job.JobState.TheVariants.{Passed, Failed, Cancelled, Blocked}
use Rattle.run_jobs.specs.States.{is_state_passed}

-- the name of a job
abbrev pub job_name : List Job → ℕ → List ℕ
job_name jobs k = option_map_or (λ job. job.name) (slice_get jobs k) []

-- the line of a job by its name and the word of its state
abbrev pub word_text : List ℕ → List ℕ → List ℕ
word_text name word =
    object_text ((codes "job", Some (string name)) ∷ (codes "state", Some (string word)) ∷ [])

-- the line of the state of a job, without its line feed
abbrev pub state_text : List Job → ℕ → JobState → List ℕ
state_text jobs k Passed = word_text (job_name jobs k) (codes "passed")
state_text jobs k Failed = word_text (job_name jobs k) (codes "failed")
state_text jobs k Cancelled = word_text (job_name jobs k) (codes "cancelled")
state_text jobs k (Blocked a) =
    object_text ((codes "by", Some (string (job_name jobs a))) ∷ (codes "job", Some (string (job_name jobs k)))
    ∷ (codes "state", Some (string (codes "blocked"))) ∷ [])

-- the lines of states, of which the first is that of job k
abbrev pub state_lines : List Job → ℕ → List JobState → List ℕ
state_lines jobs k [] = []
state_lines jobs k (state ∷ states) = line_bytes (state_text jobs k state) ++ state_lines jobs (k + 1) states

-- the status of states: 4 where there are none, 0 where all passed, and else 100
abbrev pub states_status : List JobState → ℕ
states_status [] = 4
states_status (state ∷ states) = if list_all is_state_passed (state ∷ states) then 0 else 100
