-- What status each cause gives, where the source's bytes are told and its count of faults didn't rise.
use Rattle.std.specs.Prelude.{ℕ, ◌≡◌, ◌⊎◌, ◌≤◌, ◌<◌, List, [], ◌∷◌, length, Option, Some, None, Result, codes}
use Rattle.std.specs.List.{Contains}
use Rattle.run_capture.specs.declared.source.Failed.{Failed}
use Rattle.run_events.specs.declared.turn.Turn.{Turn}
use Rattle.run_input.specs.Lines.{lines_of}
use Rattle.run_jobs.specs.declared.job.JobState.{JobState}
use Rattle.run_jobs.specs.declared.job.JobsError.{JobsError}
use Rattle.run_jobs.specs.declared.waves_error.WavesError.{WavesError}
use Rattle.run_jobs.specs.Jobs.{Batch, jobs_fault}
use Rattle.run_jobs.specs.Waves.{ComesTo}
use Rattle.run_cli.specs.Call.{Reading, Writing, HasReadFault, HasWriteFault}
use Rattle.run_cli.specs.Cause.{Gets, HasTooMuch}
use Rattle.run_cli.specs.Given.{input_limit}
use Rattle.run_jobs_cli.specs.RunsJobs.{waves_status}
use Rattle.run_jobs_cli.specs.WaveLines.{IsFirstBadJobs, IsJobsInput}

-- the one word of the program
abbrev pub IsJobsWord : List (List ℕ) → Type 0
IsJobsWord words = words ≡ codes "run" ∷ []

-- the statuses that there are
abbrev pub jobs_statuses : List ℕ
jobs_statuses = 0 ∷ 3 ∷ 4 ∷ 5 ∷ 6 ∷ 7 ∷ 8 ∷ 9 ∷ 10 ∷ 11 ∷ 12 ∷ 14 ∷ 100 ∷ []

-- the statuses of states
abbrev pub IsStatesStatus : ℕ → Type 0
IsStatesStatus status = (status ≡ 0) ⊎ ((status ≡ 4) ⊎ (status ≡ 100))

-- the source has bytes, no more than an input may have, and this holds of their lines
pub record HasLines (left : Option (List ℕ)) (Holds : List (List ℕ) → Type 0) : Type 0 where
  pub bytes : List ℕ
  pub told : left ≡ Some bytes
  pub within : length bytes ≤ input_limit
  pub holds : Holds (lines_of bytes)

-- what lists of turns come to gives a run of them this status
abbrev pub GetsStates : Batch → List (List Turn) → ℕ → Type 0
GetsStates batch lists status =
    (answer : Result (List JobState) (WavesError Failed)) → ComesTo batch lists answer
    → Gets status (waves_status answer)

-- a source that can't be read gets 10, and no other cause does; too many bytes 12, a bad line 3, and jobs that are
-- refused 5. Jobs that are taken get the status that their lists give, where the sink didn't fail; 9 says that it did,
-- and no status of states is given then
pub record GetsBy (Comes : Batch → List (List Turn) → ℕ → Type 0) (r : Reading) (w : Writing) (status : ℕ)
    : Type 0 where
  pub known : Contains jobs_statuses status
  pub unread : r.faults < r.faults_after → Gets status 10
  pub read : status ≡ 10 → HasReadFault r
  pub too_much : ¬ HasReadFault r → HasTooMuch r.left → Gets status 12
  pub bad_line : ¬ HasReadFault r → (number : ℕ) → HasLines r.left (λ lines. IsFirstBadJobs lines number)
      → Gets status 3
  pub refused : ¬ HasReadFault r → (batch : Batch) (lists : List (List Turn))
      → HasLines r.left (λ lines. IsJobsInput lines batch lists)
      → (e : JobsError) → jobs_fault batch.threads batch.jobs ≡ Some e → Gets status 5
  pub came : ¬ HasReadFault r → (batch : Batch) (lists : List (List Turn))
      → HasLines r.left (λ lines. IsJobsInput lines batch lists) → jobs_fault batch.threads batch.jobs ≡ None
      → ¬ HasWriteFault w → Comes batch lists status
  pub unwritten : status ≡ 9 → HasWriteFault w
  pub written : IsStatesStatus status → w.faults_after ≡ w.faults

-- so a run of jobs gets its status
abbrev pub GetsJobs : Reading → Writing → ℕ → Type 0
GetsJobs r w status = GetsBy GetsStates r w status
