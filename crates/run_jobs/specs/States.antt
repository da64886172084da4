-- What comes of each job, by what was told in the waves that ran.
use Rattle.std.specs.Prelude.{ℕ, zero, suc, ◌==◌, List, [], ◌∷◌, ◌++◌, length, take, filter, slice_get, Bool}
use Rattle.std.specs.Prelude.{true}
use Rattle.std.specs.Prelude.{false, if◌then◌else◌, Option, Some, None, is_none}
use Rattle.std.specs.Option.{option_or, option_map_or}
use Rattle.run_events.specs.declared.ask.Ask.{Ask}
use Rattle.run_events.specs.declared.events.ReporterEvent.{ReporterEvent}
use Rattle.run_events.specs.declared.events.ReporterEvent.TheVariants.{Test}
use Rattle.run_events.specs.declared.events.TestEventKind.{TestEventKind}
use Rattle.run_events.specs.declared.events.TestEventKind.TheVariants.{TestFinished}
use Rattle.run_events.specs.declared.outcome.RunOutcome.{RunOutcome}
use Rattle.run_laws_calls.specs.Success.{has_last_passed}
use Rattle.run_jobs.specs.declared.job.Job.{Job}
use Rattle.run_jobs.specs.declared.job.JobState.{JobState}
use Rattle.run_jobs.specs.declared.job.JobState.TheVariants.{Passed, Failed, Cancelled, Blocked}
use Rattle.run_jobs.specs.Jobs.{after_of}
use Rattle.run_jobs.specs.Levels.{at_level, job_level, levels_of}

-- a wave that ran to its end: the events that it told, what it asked at which turn, and how it ended
pub record Wave : Type 0 where
  pub told : List ReporterEvent
  pub asked : List (ℕ × Ask)
  pub outcome : RunOutcome

-- whether a job passed, by the states that are known
abbrev pub is_state_passed : JobState → Bool
is_state_passed Passed = true
is_state_passed _ = false

abbrev pub has_state_passed : Option (Option JobState) → Bool
has_state_passed None = false
has_state_passed (Some state) = option_map_or is_state_passed state false

abbrev pub job_passed : List (Option JobState) → ℕ → Bool
job_passed states k = has_state_passed (slice_get states k)

-- the first of some jobs that didn't pass
abbrev pub first_unpassed : List (Option JobState) → List ℕ → Option ℕ
first_unpassed states [] = None
first_unpassed states (a ∷ after) = if job_passed states a then first_unpassed states after else Some a

-- whether a job is ready: each that it waits for passed
abbrev pub is_job_ready : List Job → List (Option JobState) → ℕ → Bool
is_job_ready jobs states k = is_none (first_unpassed states (after_of jobs k))

-- the ready jobs of a level, in order: they are the tests of its wave
abbrev pub ready_jobs : List Job → List (Option JobState) → ℕ → List ℕ
ready_jobs jobs states level = filter (is_job_ready jobs states) (at_level level 0 (levels_of jobs))

-- the number of a ready job among them: how many ready jobs of its level stand before it
abbrev pub wave_unit : List Job → List (Option JobState) → ℕ → ℕ
wave_unit jobs states k =
    length (filter (is_job_ready jobs states) (at_level (job_level jobs k) 0 (take k (levels_of jobs))))

-- the number of the test that an event tells finished, and whether its last attempt passed
abbrev pub finish_result_in : TestEventKind → Option (ℕ × Bool)
finish_result_in (TestFinished event) = Some (event.finish.test.unit, has_last_passed event.finish.statuses)
finish_result_in _ = None

abbrev pub result_told : ReporterEvent → Option (ℕ × Bool)
result_told (Test event) = finish_result_in event.kind
result_told _ = None

-- the same where it is this test
abbrev pub result_for : ℕ → Option (ℕ × Bool) → Option Bool
result_for unit None = None
result_for unit (Some result) = if result.0 == unit then Some result.1 else None

-- whether a test passed, by the last of some events that tells that it finished
abbrev pub last_result : ℕ → List ReporterEvent → Option Bool
last_result unit [] = None
last_result unit (event ∷ events) = option_or (last_result unit events) (result_for unit (result_told event))

-- the state of a job that ran, by whether its last result passed, where it has one
abbrev pub state_told : Option Bool → JobState
state_told (Some true) = Passed
state_told (Some false) = Failed
state_told None = Cancelled

-- the state of a ready job, by its wave, where that was due and ran, and its number there
abbrev pub ready_state : Option Wave → ℕ → JobState
ready_state None unit = Cancelled
ready_state (Some wave) unit = state_told (last_result unit wave.told)

-- the state of a job: blocked by the first that it waits for that didn't pass, or else that of a ready job
abbrev pub state_with : Option ℕ → Option Wave → ℕ → JobState
state_with (Some a) wave unit = Blocked a
state_with None wave unit = ready_state wave unit

-- the state of job k after these waves, of which wave w is that of level w, by the states of the jobs before it
abbrev pub job_state : List Job → List Wave → List (Option JobState) → ℕ → JobState
job_state jobs waves states k =
    state_with (first_unpassed states (after_of jobs k)) (slice_get waves (job_level jobs k)) (wave_unit jobs states k)

-- the states of the first n jobs after these waves
abbrev pub first_states : List Job → List Wave → ℕ → List (Option JobState)
first_states jobs waves zero = []
first_states jobs waves (suc n) =
    first_states jobs waves n ++ Some (job_state jobs waves (first_states jobs waves n) n) ∷ []

-- the state of each job after these waves
abbrev pub states_after : List Job → List Wave → List (Option JobState)
states_after jobs waves = first_states jobs waves (length jobs)
