-- What the source gives, and what the program of jobs answers to it.
use Rattle.std.specs.Prelude.{ℕ, ◌≡◌, ◌⊎◌, List, [], ⊤, None, Some, Result, Ok, Err}
use Rattle.run_events.specs.declared.turn.Turn.{Turn}
use Rattle.run_input.specs.Lines.{lines_of}
use Rattle.run_input.specs.declared.errors.InputError.{InputError}
use Rattle.run_input.specs.declared.errors.InputError.TheVariants as input
use Rattle.run_output.specs.declared.fault.Fault.TheVariants as plain
use Rattle.run_jobs.specs.declared.job.JobsError.{JobsError}
use Rattle.run_jobs.specs.declared.job.JobsError.TheVariants as jobs
use Rattle.run_jobs.specs.Jobs.{Batch, jobs_fault}
use Rattle.run_cli.specs.Call.{Reading, Writing, HasReadFault}
use Rattle.run_cli.specs.Given.{IsAllOf, IsTooLong, IsWithin}
use Rattle.run_jobs_cli.specs.declared.fault.JobsFault.{JobsFault}
use Rattle.run_jobs_cli.specs.declared.fault.JobsFault.TheVariants as faults
use Rattle.run_jobs_cli.specs.JobsEnds.{EndsAtJobsFault}
use Rattle.run_jobs_cli.specs.RunsJobs.{RunsJobs}
use Rattle.run_jobs_cli.specs.WaveLines.{IsFirstBadJobs, IsJobsInput}

-- the fault that a refusal of jobs is
abbrev pub refusal_fault : JobsError → JobsFault
refusal_fault jobs.ZeroThreads = faults.ZeroThreads
refusal_fault (jobs.DuplicateName job) = faults.DuplicateName job
refusal_fault (jobs.BadAfter job after) = faults.BadAfter job
refusal_fault jobs.OutOfMemory = faults.Plain plain.Memory

-- the fault that an error of reading lines is
abbrev pub input_fault : InputError → JobsFault
input_fault (input.Line number) = faults.Plain (plain.Line number)
input_fault input.OutOfMemory = faults.Plain plain.Memory

-- lines say these jobs, which are refused with this fault
abbrev pub AreBadJobs : List (List ℕ) → JobsFault → Type 0
AreBadJobs lines fault =
    (batch : Batch) × (lists : List (List Turn)) × IsJobsInput lines batch lists
    × ((e : JobsError) × (jobs_fault batch.threads batch.jobs ≡ Some e) × (fault ≡ refusal_fault e))

-- lines say jobs that are taken, and lists of turns
abbrev pub AreGoodJobs : List (List ℕ) → Batch → List (List Turn) → Type 0
AreGoodJobs lines batch lists = IsJobsInput lines batch lists × (jobs_fault batch.threads batch.jobs ≡ None)

-- what each fault before the first wave says of the lines: the first bad one, or what is wrong with their jobs; want of
-- memory says nothing
abbrev pub IsLinesFault : List (List ℕ) → JobsFault → Type 0
IsLinesFault lines (faults.Plain (plain.Line number)) = IsFirstBadJobs lines number
IsLinesFault lines (faults.Plain plain.Memory) = ⊤
IsLinesFault lines (faults.Plain _) = ⊥
IsLinesFault lines fault = AreBadJobs lines fault

-- the source was read to its end and didn't fail, and this holds of its lines
pub record GivesLines (r : Reading) (Holds : List (List ℕ) → Type 0) : Type 0 where
  pub bytes : List ℕ
  pub all : IsAllOf r bytes
  pub calm : r.faults_after ≡ r.faults
  pub holds : Holds (lines_of bytes)

-- what each fault before the first wave says of the source
abbrev pub IsJobsFault : Reading → JobsFault → Type 0
IsJobsFault r (faults.Plain plain.Read) = IsWithin r × HasReadFault r
IsJobsFault r (faults.Plain plain.TooLong) = IsTooLong r × (r.faults_after ≡ r.faults)
IsJobsFault r (faults.Plain plain.Memory) = r.faults_after ≡ r.faults
IsJobsFault r fault = GivesLines r (λ lines. IsLinesFault lines fault)

-- the source gave a fault, whose line alone was written; or jobs that are taken, which were run and written so
abbrev pub AnswersJobs : Reading → Writing → ℕ → Type 0
AnswersJobs r w status =
    ((fault : JobsFault) × IsJobsFault r fault × EndsAtJobsFault w [] fault status)
    ⊎ ((batch : Batch) × (lists : List (List Turn)) × GivesLines r (λ lines. AreGoodJobs lines batch lists)
    × RunsJobs batch lists w status)
