-- What status each cause gives of the wave that is due next.
use Rattle.std.specs.Prelude.{ℕ, ◌≡◌, List, Result, Ok, Err}
use Rattle.std.specs.declared.convert.Infallible.{Infallible}
use Rattle.run_events.specs.declared.turn.Turn.{Turn}
use Rattle.run_jobs.specs.declared.job.JobState.{JobState}
use Rattle.run_jobs.specs.declared.waves_error.WavesError.{WavesError}
use Rattle.run_jobs.specs.declared.waves_error.WavesError.TheVariants as errors
use Rattle.run_jobs.specs.Jobs.{Batch}
use Rattle.run_jobs.specs.Waves.{ComesTo}
use Rattle.run_cli.specs.Call.{Reading, Writing}
use Rattle.run_cli.specs.Cause.{Gets}
use Rattle.run_jobs_cli.specs.Faults.{jobs_fault_status}
use Rattle.run_jobs_cli.specs.JobsCauses.{GetsBy}
use Rattle.run_jobs_cli.specs.RunsJobs.{waves_fault}

-- the status of what lists come to: the next wave has no list, and so it is the one that is due; none is due; or the
-- lists don't carry their waves out
abbrev pub next_status : Result (List JobState) (WavesError Infallible) → ℕ
next_status (Ok states) = 4
next_status (Err (errors.Missing wave)) = 0
next_status (Err error) = jobs_fault_status (waves_fault error)

-- what lists of turns come to gives the wave after them this status
abbrev pub GetsNext : Batch → List (List Turn) → ℕ → Type 0
GetsNext batch lists status =
    (answer : Result (List JobState) (WavesError Infallible)) → ComesTo {E = Infallible} batch lists answer
    → Gets status (next_status answer)

-- so the wave that is due next gets its status, which is never that of jobs of which some didn't pass
abbrev pub GetsNextWave : Reading → Writing → ℕ → Type 0
GetsNextWave r w status = GetsBy GetsNext r w status × (status ≡ 100 → ⊥)
