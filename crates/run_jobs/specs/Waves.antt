-- What running jobs in waves comes to.
use Rattle.std.specs.Prelude.{ℕ, ◌≡◌, ◌<◌, ◌&&◌, nat_lt, List, map, take, length, slice_get, flat_map, Bool, true}
use Rattle.std.specs.Prelude.{false}
use Rattle.std.specs.Prelude.{not, Option, Some, None, Result, Ok, Err, ⊤}
use Rattle.std.specs.List.{list_any}
use Rattle.run_events.specs.Tell.{Adds}
use Rattle.run_events.specs.declared.ask.Ask.{Ask}
use Rattle.run_events.specs.declared.events.ReporterEvent.{ReporterEvent}
use Rattle.run_events.specs.declared.outcome.RunOutcome.{RunOutcome}
use Rattle.run_events.specs.declared.outcome.RunOutcome.TheVariants as outcomes
use Rattle.run_events.specs.declared.settings.Settings.{Settings}
use Rattle.run_events.specs.declared.turn.Turn.{Turn}
use Rattle.run_model.specs.declared.entry.Entry.{Entry}
use Rattle.run_model.specs.Journal.{outcome, past_of}
use Rattle.run_model.specs.Words.{asked, told}
use Rattle.run_laws.specs.Course.{GoesOn, IsJournalOf, Stops, refuses_none}
use Rattle.run_engine.specs.Execution.{Executes, UnlessMemory}
use Rattle.run_engine.specs.World.{Outside}
use Rattle.run_engine.specs.declared.errors.TestRunnerExecuteErrors.{TestRunnerExecuteErrors}
use Rattle.run_engine.specs.declared.errors.TestRunnerExecuteErrors.TheVariants as engine
use Rattle.run_jobs.specs.declared.job.JobState.{JobState}
use Rattle.run_jobs.specs.declared.waves_error.WavesError.{WavesError}
use Rattle.run_jobs.specs.declared.waves_error.WavesError.TheVariants as errors
use Rattle.run_jobs.specs.Jobs.{Batch}
use Rattle.run_jobs.specs.States.{Wave, ready_jobs, states_after}
use Rattle.run_jobs.specs.WavePlan.{wave_settings}

-- whether a run ended cancelled
abbrev pub ended_cancelled : RunOutcome → Bool
ended_cancelled (outcomes.Cancelled step) = true
ended_cancelled _ = false

-- the ready jobs of the next wave after these, and the settings of its run
abbrev pub next_jobs : Batch → List Wave → List ℕ
next_jobs batch waves = ready_jobs batch.jobs (states_after batch.jobs waves) (length waves)

abbrev pub next_settings : Batch → List Wave → Settings
next_settings batch waves = wave_settings batch (next_jobs batch waves)

-- whether the next wave after these is due: none of these ended cancelled, and it has a ready job
abbrev pub is_next_due : Batch → List Wave → Bool
is_next_due batch waves =
    not (list_any (λ wave. ended_cancelled wave.outcome) waves) && nat_lt 0 (length (next_jobs batch waves))

-- after these waves a wave was due and ran so, by the list of turns that is its own, with a reporter that refused
-- nothing
pub record HasRun (batch : Batch) (lists : List (List Turn)) (waves : List Wave) (wave : Wave) : Type 0 where
  pub due : is_next_due batch waves ≡ true
  pub turns : List Turn
  pub given : slice_get lists (length waves) ≡ Some turns
  pub journal : List Entry
  pub took : IsJournalOf (next_settings batch waves) turns refuses_none journal
  pub ended : outcome (next_settings batch waves) (past_of (next_settings batch waves) journal) ≡ Some wave.outcome
  pub tells : wave.told ≡ told (past_of (next_settings batch waves) journal)
  pub asks : wave.asked ≡ asked (past_of (next_settings batch waves) journal)

-- these waves ran so, each after those before it
abbrev pub HaveRun : Batch → List (List Turn) → List Wave → Type 0
HaveRun batch lists waves =
    (n : ℕ) (wave : Wave) → slice_get waves n ≡ Some wave → HasRun batch lists (take n waves) wave

-- all events that waves told, and all that they asked, wave after wave
abbrev pub all_told : List Wave → List ReporterEvent
all_told waves = flat_map (λ wave. wave.told) waves

abbrev pub all_asked : List Wave → List (ℕ × Ask)
all_asked waves = flat_map (λ wave. wave.asked) waves

-- between two moments a reporter was told just these waves' events and refused none, and children were asked just what
-- the waves ask
pub record TellsWaves {R E C : Type 0} (tells : R → List (ReporterEvent × Option E) → Type 0)
    (asks : C → List (ℕ × Ask) → Type 0) (o : Outside R C) (waves : List Wave) : Type 0 where
  pub told : Adds tells o.report o.report_after (map (λ event. (event, None)) (all_told waves))
  pub asked : Adds asks o.children o.children_after (all_asked waves)
  pub calm : o.faults_after ≡ o.faults

-- the turns of the next wave after these were answered by an error: the reporter was told the events of these waves,
-- and then just what that answer says of its turns; and so were the children asked
pub record TellsAndStops {R E C : Type 0} (tells : R → List (ReporterEvent × Option E) → Type 0)
    (asks : C → List (ℕ × Ask) → Type 0) (o : Outside R C) (batch : Batch) (waves : List Wave) (turns : List Turn)
    (error : TestRunnerExecuteErrors E) : Type 0 where
  pub report : R
  pub children : C
  pub faults : ℕ
  pub ran : TellsWaves tells asks (record o { report_after = report; children_after = children; faults_after = faults })
      waves
  pub stops : Executes tells asks (record o { report = report; children = children; faults = faults })
      (next_settings batch waves) turns (Err error)

-- what each answer says: of all waves that were due, which ran, and no more lists were given; of those that ran before
-- a wave whose turns are answered by an error; of those before one that is due and has no list; or of all that were
-- due, where more lists were given
abbrev pub AnswersWaves : {R E C : Type 0} → (R → List (ReporterEvent × Option E) → Type 0)
    → (C → List (ℕ × Ask) → Type 0) → Outside R C → Batch → List (List Turn) → Result (List JobState) (WavesError E)
    → Type 0
AnswersWaves tells asks o batch lists (Ok states) =
    (waves : List Wave) × HaveRun batch lists waves × (is_next_due batch waves ≡ false)
    × (length waves ≡ length lists) × (map Some states ≡ states_after batch.jobs waves) × TellsWaves tells asks o waves
AnswersWaves tells asks o batch lists (Err (errors.Wave n error)) =
    (waves : List Wave) × HaveRun batch lists waves × (is_next_due batch waves ≡ true) × (n ≡ length waves)
    × ((turns : List Turn) × (slice_get lists n ≡ Some turns)
    × UnlessMemory (Err error) (TellsAndStops tells asks o batch waves turns error))
AnswersWaves tells asks o batch lists (Err (errors.Missing n)) =
    (waves : List Wave) × HaveRun batch lists waves × (is_next_due batch waves ≡ true) × (n ≡ length waves)
    × (length lists ≡ n) × TellsWaves tells asks o waves
AnswersWaves tells asks o batch lists (Err (errors.Extra given due)) =
    (waves : List Wave) × HaveRun batch lists waves × (is_next_due batch waves ≡ false) × (due ≡ length waves)
    × (given ≡ length lists) × (due < given) × TellsWaves tells asks o waves
AnswersWaves tells asks o batch lists (Err errors.OutOfMemory) = ⊤

-- with a reporter that refuses nothing turns stop, or leave the run unfinished, as an error says
abbrev pub ComesToError : {E : Type 0} → Settings → List Turn → TestRunnerExecuteErrors E → Type 0
ComesToError p turns (engine.NotEnabled place) = Stops p turns refuses_none place false
ComesToError p turns (engine.ThirdSignal place) = Stops p turns refuses_none place true
ComesToError p turns engine.Unfinished = GoesOn p turns refuses_none
ComesToError p turns (engine.Report e) = ⊥
ComesToError p turns engine.OutOfMemory = ⊥

-- what lists of turns come to, with a reporter that refuses nothing
abbrev pub ComesTo : {E : Type 0} → Batch → List (List Turn) → Result (List JobState) (WavesError E) → Type 0
ComesTo batch lists (Ok states) =
    (waves : List Wave) × HaveRun batch lists waves × (is_next_due batch waves ≡ false)
    × (length waves ≡ length lists) × (map Some states ≡ states_after batch.jobs waves)
ComesTo batch lists (Err (errors.Wave n error)) =
    (waves : List Wave) × HaveRun batch lists waves × (is_next_due batch waves ≡ true) × (n ≡ length waves)
    × ((turns : List Turn) × (slice_get lists n ≡ Some turns) × ComesToError (next_settings batch waves) turns error)
ComesTo batch lists (Err (errors.Missing n)) =
    (waves : List Wave) × HaveRun batch lists waves × (is_next_due batch waves ≡ true) × (n ≡ length waves)
    × (length lists ≡ n)
ComesTo batch lists (Err (errors.Extra given due)) =
    (waves : List Wave) × HaveRun batch lists waves × (is_next_due batch waves ≡ false) × (due ≡ length waves)
    × (given ≡ length lists) × (due < given)
ComesTo batch lists (Err errors.OutOfMemory) = ⊥

-- whether an answer says that memory was wanting
abbrev pub wants_memory : {E : Type 0} → Result (List JobState) (WavesError E) → Bool
wants_memory (Err errors.OutOfMemory) = true
wants_memory (Err (errors.Wave n engine.OutOfMemory)) = true
wants_memory _ = false
