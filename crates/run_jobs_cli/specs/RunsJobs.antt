-- How jobs that were taken are run, and what is written of them.
use Rattle.std.specs.Prelude.{ℕ, ◌≡◌, ◌<◌, List, [], ◌++◌, map, length, slice_get, Option, Some, Result, Ok, Err}
use Rattle.std.specs.Prelude.{IsSome, true, false, is_none}
use Rattle.run_capture.specs.Faults.{Rose}
use Rattle.run_capture.specs.declared.source.Failed.{Failed}
use Rattle.run_events.specs.declared.settings.Settings.{Settings}
use Rattle.run_events.specs.declared.turn.Turn.{Turn}
use Rattle.run_model.specs.declared.entry.Entry.{Entry}
use Rattle.run_model.specs.Journal.{IsLegal, past_of}
use Rattle.run_laws.specs.Course.{none_refused}
use Rattle.run_engine.specs.Execution.{IsAnswerOf}
use Rattle.run_engine.specs.declared.errors.TestRunnerExecuteErrors.{TestRunnerExecuteErrors}
use Rattle.run_engine.specs.declared.errors.TestRunnerExecuteErrors.TheVariants as engine
use Rattle.run_output.specs.declared.fault.Fault.TheVariants as plain
use Rattle.run_output.specs.Told.{event_line}
use Rattle.run_cli.specs.Call.{Writing, HasTaken}
use Rattle.run_cli.specs.Executed.{TookEvents}
use Rattle.run_cli.specs.Text.{joined, whole_form}
use Rattle.run_jobs.specs.declared.job.Job.{Job}
use Rattle.run_jobs.specs.declared.job.JobState.{JobState}
use Rattle.run_jobs.specs.declared.waves_error.WavesError.{WavesError}
use Rattle.run_jobs.specs.declared.waves_error.WavesError.TheVariants as errors
use Rattle.run_jobs.specs.Jobs.{Batch}
use Rattle.run_jobs.specs.States.{Wave, states_after}
use Rattle.run_jobs.specs.Waves.{HaveRun, all_told, is_next_due, next_settings}
use Rattle.run_jobs_cli.specs.declared.fault.JobsFault.{JobsFault}
use Rattle.run_jobs_cli.specs.declared.fault.JobsFault.TheVariants as faults
use Rattle.run_jobs_cli.specs.Faults.{jobs_fault_status}
use Rattle.run_jobs_cli.specs.JobsEnds.{EndsAtJobsFault, EndsAtStates}
use Rattle.run_jobs_cli.specs.StateLines.{states_status}

-- the fault that an error of a wave's turns is
abbrev pub wave_fault : {E : Type 0} → ℕ → TestRunnerExecuteErrors E → JobsFault
wave_fault wave (engine.NotEnabled turn) = faults.NotEnabled turn wave
wave_fault wave (engine.ThirdSignal turn) = faults.ThirdSignal turn wave
wave_fault wave engine.Unfinished = faults.Unfinished wave
wave_fault wave (engine.Report e) = faults.Plain plain.Report
wave_fault wave engine.OutOfMemory = faults.Plain plain.Memory

-- the fault that an error of waves is
abbrev pub waves_fault : {E : Type 0} → WavesError E → JobsFault
waves_fault (errors.Wave wave error) = wave_fault wave error
waves_fault (errors.Missing wave) = faults.Unfinished wave
waves_fault (errors.Extra given due) = faults.Extra due given
waves_fault errors.OutOfMemory = faults.Plain plain.Memory

-- what is written once the waves were answered: the lines of states, or of a fault
abbrev pub FinishesJobs : Writing → List Job → ℕ → Result (List JobState) (WavesError Failed) → Type 0
FinishesJobs w jobs status (Ok states) = EndsAtStates w [] jobs states status
FinishesJobs w jobs status (Err error) = EndsAtJobsFault w [] (waves_fault error) status

-- the lines of the events that waves told
abbrev pub waves_text : List Wave → List ℕ
waves_text waves = joined (map event_line (all_told waves))

-- the turns of a wave were taken as this journal says, up to this error. The sink took some bytes whole, then the lines
-- of the journal's events, of each that was refused a front part, where its count of faults rose, and then the line of
-- the fault
pub record StopsInWave (p : Settings) (turns : List Turn) (before : List ℕ) (wave : ℕ)
    (error : TestRunnerExecuteErrors Failed) (w : Writing) (status : ℕ) : Type 0 where
  pub journal : List Entry
  pub legal : IsLegal p journal
  pub refusal : Option Failed
  pub marked : is_none refusal ≡ none_refused journal
  pub says : IsAnswerOf p turns journal refusal (Err error)
  pub between : Option (List ℕ)
  pub first : HasTaken (record w { taken_after = between }) before
  pub after : Option (List ℕ)
  pub count : ℕ
  pub events : TookEvents whole_form (past_of p journal)
      (record w { taken = between; taken_after = after; faults_after = count })
  pub risen : IsSome refusal → Rose w.faults count
  pub last : EndsAtJobsFault (record w { taken = after; faults = count }) [] (wave_fault wave error) status

-- so it is, but for want of memory
abbrev pub StopsUnlessMemory : Settings → List Turn → List ℕ → ℕ → TestRunnerExecuteErrors Failed → Writing → ℕ
    → Type 0
StopsUnlessMemory p turns before wave engine.OutOfMemory w status = status ≡ 11
StopsUnlessMemory p turns before wave error w status = StopsInWave p turns before wave error w status

-- what each answer of the waves says of what was written. The events of the waves that ran went out first, and then:
-- the states of the jobs; or the events of the wave that stopped, and its fault; or that a wave has no list, or that
-- more lists were given than waves were due
abbrev pub IsWavesEnd : Batch → List (List Turn) → Writing → ℕ → Result (List JobState) (WavesError Failed) → Type 0
IsWavesEnd batch lists w status (Ok states) =
    (waves : List Wave) × HaveRun batch lists waves × (is_next_due batch waves ≡ false)
    × (length waves ≡ length lists) × (map Some states ≡ states_after batch.jobs waves)
    × EndsAtStates w (waves_text waves) batch.jobs states status
IsWavesEnd batch lists w status (Err (errors.Wave n error)) =
    (waves : List Wave) × HaveRun batch lists waves × (is_next_due batch waves ≡ true) × (n ≡ length waves)
    × ((turns : List Turn) × (slice_get lists n ≡ Some turns)
    × StopsUnlessMemory (next_settings batch waves) turns (waves_text waves) n error w status)
IsWavesEnd batch lists w status (Err (errors.Missing n)) =
    (waves : List Wave) × HaveRun batch lists waves × (is_next_due batch waves ≡ true) × (n ≡ length waves)
    × (length lists ≡ n) × EndsAtJobsFault w (waves_text waves) (faults.Unfinished n) status
IsWavesEnd batch lists w status (Err (errors.Extra given due)) =
    (waves : List Wave) × HaveRun batch lists waves × (is_next_due batch waves ≡ false) × (due ≡ length waves)
    × (given ≡ length lists) × (due < given) × EndsAtJobsFault w (waves_text waves) (faults.Extra due given) status
IsWavesEnd batch lists w status (Err errors.OutOfMemory) = status ≡ 11

-- jobs that were taken, and these lists, were answered and written so
abbrev pub RunsJobs : Batch → List (List Turn) → Writing → ℕ → Type 0
RunsJobs batch lists w status =
    (answer : Result (List JobState) (WavesError Failed)) × IsWavesEnd batch lists w status answer

-- the status of an answer
abbrev pub waves_status : Result (List JobState) (WavesError Failed) → ℕ
waves_status (Ok states) = states_status states
waves_status (Err error) = jobs_fault_status (waves_fault error)
