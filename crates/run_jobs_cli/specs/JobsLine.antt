-- What the first line of an input of jobs says.
use Rattle.std.specs.Prelude.{ℕ, List, [], ◌∷◌, length, Option, Some, None, option_and_then, nat_lt, codes}
use Rattle.serde_json.specs.Data.{Data, Items, no_items, item}
use Rattle.serde_json.specs.Find.{as_array, as_str, get}
use Rattle.run_input.specs.Fields.{◌>>=◌, is_object_of, numbers_of, or_usual, texts_of, u32_of, when}
use Rattle.run_input.specs.PlanHead.{run_id_of}
use Rattle.run_input.specs.ValueOf.{json_value}
use Rattle.run_jobs.specs.declared.job.Job.{Job}
use Rattle.run_jobs.specs.Jobs.{Batch}

-- a job, which waits for none where nothing is said
unfoldable pub job_of : Data → Option Job
job_of d = do
  _ ← when (is_object_of (codes "after" ∷ codes "command" ∷ codes "name" ∷ []) d)
  name ← option_and_then as_str (get (codes "name") d)
  command ← option_and_then texts_of (get (codes "command") d)
  after ← or_usual [] numbers_of (get (codes "after") d)
  Some (record { name = name; command = command; after = after })

-- the jobs of items, each of which is one
abbrev pub jobs_from : Items → Option (List Job)
jobs_from no_items = Some []
jobs_from (item d ds) = do
  job ← job_of d
  jobs ← jobs_from ds
  Some (job ∷ jobs)

-- a list of jobs
abbrev pub jobs_of : Data → Option (List Job)
jobs_of d = option_and_then jobs_from (as_array d)

-- the jobs of a line are fewer than 2^32
abbrev pub jobs_listed : Option Data → Option (List Job)
jobs_listed d = do
  jobs ← option_and_then jobs_of d
  _ ← when (nat_lt (length jobs) 4294967296)
  Some jobs

-- a line of jobs: one at a time where nothing else is said
unfoldable pub batch_from : Data → Option Batch
batch_from d = do
  _ ← when (is_object_of (codes "jobs" ∷ codes "run_id" ∷ codes "threads" ∷ []) d)
  run_id ← option_and_then run_id_of (get (codes "run_id") d)
  threads ← or_usual 1 u32_of (get (codes "threads") d)
  jobs ← jobs_listed (get (codes "jobs") d)
  Some (record { run_id = run_id; threads = threads; jobs = jobs })

-- what a line says as the line of jobs
abbrev pub jobs_line_of : List ℕ → Option Batch
jobs_line_of line = option_and_then batch_from (json_value line)
