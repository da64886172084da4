-- How the program of jobs ends with a fault or with states.
use Rattle.std.specs.Prelude.{ℕ, ◌≡◌, ◌⊎◌, ◌≤◌, List, ◌++◌}
use Rattle.run_output.specs.Fields.{line_bytes}
use Rattle.run_jobs.specs.declared.job.Job.{Job}
use Rattle.run_jobs.specs.declared.job.JobState.{JobState}
use Rattle.run_cli.specs.Call.{Writing, HasTaken, HasTakenFront, HasWriteFault, Writes}
use Rattle.run_cli.specs.Short.{IsShort}
use Rattle.run_jobs_cli.specs.declared.fault.JobsFault.{JobsFault}
use Rattle.run_jobs_cli.specs.Faults.{jobs_fault_status, jobs_fault_text}
use Rattle.run_jobs_cli.specs.StateLines.{state_lines, states_status}

-- the line of a fault
abbrev pub jobs_fault_only : JobsFault → List ℕ
jobs_fault_only fault = line_bytes (jobs_fault_text fault)

-- some bytes and the line of a fault were written, where the sink failed a front part of them, with the fault's status;
-- or memory was wanting
abbrev pub EndsAtJobsFault : Writing → List ℕ → JobsFault → ℕ → Type 0
EndsAtJobsFault w before fault status =
    ((status ≡ 11) × IsShort (before ++ jobs_fault_only fault) w)
    ⊎ ((status ≡ jobs_fault_status fault) × (w.faults ≤ w.faults_after) × Writes w (before ++ jobs_fault_only fault))

-- some bytes and the lines of states were written, with the states' status; or the sink failed, or memory was wanting
abbrev pub EndsAtStates : Writing → List ℕ → List Job → List JobState → ℕ → Type 0
EndsAtStates w before jobs states status =
    ((status ≡ states_status states) × HasTaken w (before ++ state_lines jobs 0 states)
    × (w.faults_after ≡ w.faults))
    ⊎ (((status ≡ 9) × HasTakenFront w (before ++ state_lines jobs 0 states) × (w.faults ≤ w.faults_after)
    × HasWriteFault w)
    ⊎ ((status ≡ 11) × IsShort (before ++ state_lines jobs 0 states) w))
