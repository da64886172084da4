-- What running one wave comes to.
use Rattle.std.specs.Prelude.{ℕ, ◌≡◌, ◌≤◌, ◌<◌, List, [], ◌∷◌, map, length, slice_get, Bool, true, false, Option, Some}
use Rattle.std.specs.Prelude.{None, Result, Ok, Err, ⊤}
use Rattle.run_events.specs.Tell.{Adds}
use Rattle.run_events.specs.declared.ask.Ask.{Ask}
use Rattle.run_events.specs.declared.events.ReporterEvent.{ReporterEvent}
use Rattle.run_events.specs.declared.outcome.RunOutcome.{RunOutcome}
use Rattle.run_events.specs.declared.settings.Settings.{Settings}
use Rattle.run_events.specs.declared.turn.Turn.{Turn}
use Rattle.run_model.specs.declared.entry.Entry.{Entry}
use Rattle.run_model.specs.Journal.{outcome, past_of}
use Rattle.run_model.specs.Words.{asked, told}
use Rattle.run_laws.specs.Course.{IsJournalOf, refuses_none}
use Rattle.run_engine.specs.Execution.{Executes, UnlessMemory}
use Rattle.run_engine.specs.World.{Outside}
use Rattle.run_jobs.specs.declared.job.JobState.{JobState}
use Rattle.run_jobs.specs.declared.ledger.Results.{Results}
use Rattle.run_jobs.specs.declared.waves_error.WavesError.{WavesError}
use Rattle.run_jobs.specs.declared.waves_error.WavesError.TheVariants as errors
use Rattle.run_jobs.specs.Jobs.{Batch}
use Rattle.run_jobs.specs.Ledgers.{IsResultsOf}
use Rattle.run_jobs.specs.Settled.{AreKnown}
use Rattle.run_jobs.specs.States.{Wave, states_after}
use Rattle.run_jobs.specs.WavePlan.{wave_settings}
use Rattle.run_jobs.specs.Waves.{AnswersWaves, HaveRun, TellsWaves, ended_cancelled, is_next_due}

-- the settings of a wave of these jobs, where there are any
abbrev pub settings_where : Batch → List ℕ → Option Settings
settings_where batch [] = None
settings_where batch (k ∷ ks) = Some (wave_settings batch (k ∷ ks))

-- the turns of a run ended it with this outcome, with a reporter that refused nothing and was told just its events;
-- and its children were asked just its asks
pub record RunsToEnd {R E C : Type 0} (tells : R → List (ReporterEvent × Option E) → Type 0)
    (asks : C → List (ℕ × Ask) → Type 0) (o : Outside R C) (p : Settings) (turns : List Turn) (ended : RunOutcome)
    : Type 0 where
  pub journal : List Entry
  pub took : IsJournalOf p turns refuses_none journal
  pub ends : outcome p (past_of p journal) ≡ Some ended
  pub told : Adds tells o.report o.report_after (map (λ event. (event, None)) (told (past_of p journal)))
  pub asked : Adds asks o.children o.children_after (asked (past_of p journal))
  pub calm : o.faults_after ≡ o.faults

-- neither the reporter nor the children were called
abbrev pub IsQuiet : {R C : Type 0} → Outside R C → Type 0
IsQuiet o = (o.report_after ≡ o.report) × (o.children_after ≡ o.children)

-- a wave of these jobs ran to its end, whether cancelled, and these are its results
pub record RunsWave {R E C : Type 0} (tells : R → List (ReporterEvent × Option E) → Type 0)
    (asks : C → List (ℕ × Ask) → Type 0) (o : Outside R C) (p : Settings) (turns : List Turn) (cancelled : Bool)
    (results : Results) : Type 0 where
  pub ended : RunOutcome
  pub runs : RunsToEnd tells asks o p turns ended
  pub whether : cancelled ≡ ended_cancelled ended
  pub heard : IsResultsOf results (told (past_of p runs.journal))

-- what each answer of running a wave by its turns says, where it is the wave of this number
abbrev pub AnswersList : {R E C : Type 0} → (R → List (ReporterEvent × Option E) → Type 0)
    → (C → List (ℕ × Ask) → Type 0) → Outside R C → Settings → List Turn → ℕ → Result (Bool × Results) (WavesError E)
    → Type 0
AnswersList tells asks o p turns w (Ok (cancelled, results)) = RunsWave tells asks o p turns cancelled results
AnswersList tells asks o p turns w (Err (errors.Wave n error)) =
    (n ≡ w) × UnlessMemory (Err error) (Executes tells asks o p turns (Err error))
AnswersList tells asks o p turns w (Err (errors.Missing n)) = ⊥
AnswersList tells asks o p turns w (Err (errors.Extra given due)) = ⊥
AnswersList tells asks o p turns w (Err errors.OutOfMemory) = ⊤

-- what each answer of running a wave of these jobs says, where it is the wave of this number
abbrev pub AnswersNext : {R E C : Type 0} → (R → List (ReporterEvent × Option E) → Type 0)
    → (C → List (ℕ × Ask) → Type 0) → Outside R C → Batch → List ℕ → List (List Turn) → ℕ
    → Result (Option (Bool × Results)) (WavesError E) → Type 0
AnswersNext tells asks o batch ks lists w (Ok None) = (ks ≡ []) × IsQuiet o
AnswersNext tells asks o batch ks lists w (Ok (Some (cancelled, results))) =
    (0 < length ks) × ((turns : List Turn) × (slice_get lists w ≡ Some turns)
    × RunsWave tells asks o (wave_settings batch ks) turns cancelled results)
AnswersNext tells asks o batch ks lists w (Err (errors.Wave n error)) =
    (n ≡ w) × (0 < length ks) × ((turns : List Turn) × (slice_get lists w ≡ Some turns)
    × UnlessMemory (Err error) (Executes tells asks o (wave_settings batch ks) turns (Err error)))
AnswersNext tells asks o batch ks lists w (Err (errors.Missing n)) =
    (n ≡ w) × (0 < length ks) × (slice_get lists w ≡ None) × IsQuiet o
AnswersNext tells asks o batch ks lists w (Err (errors.Extra given due)) = ⊥
AnswersNext tells asks o batch ks lists w (Err errors.OutOfMemory) = ⊤

-- what each answer of running all waves that are due says: how many ran, and what is known then of the jobs; that is
-- known too where the next one is due and has no list
abbrev pub AnswersDue : {R E C : Type 0} → (R → List (ReporterEvent × Option E) → Type 0)
    → (C → List (ℕ × Ask) → Type 0) → Outside R C → Batch → List (List Turn) → List (Option JobState)
    → Result ℕ (WavesError E) → Type 0
AnswersDue tells asks o batch lists states (Ok n) =
    (waves : List Wave) × HaveRun batch lists waves × (is_next_due batch waves ≡ false) × (n ≡ length waves)
    × AreKnown batch.jobs waves states n × TellsWaves tells asks o waves
AnswersDue tells asks o batch lists states (Err (errors.Missing n)) =
    (waves : List Wave) × HaveRun batch lists waves × (is_next_due batch waves ≡ true) × (n ≡ length waves)
    × (length lists ≡ n) × AreKnown batch.jobs waves states n × TellsWaves tells asks o waves
AnswersDue tells asks o batch lists states (Err error) = AnswersWaves tells asks o batch lists (Err error)

-- what is answered once all waves that are due have run, where so many lists were given
abbrev pub FinishesWaves : {E : Type 0} → Batch → List Wave → ℕ → Result (List JobState) (WavesError E) → Type 0
FinishesWaves batch waves n (Ok states) = (n ≤ length waves) × (map Some states ≡ states_after batch.jobs waves)
FinishesWaves batch waves n (Err (errors.Wave w error)) = ⊥
FinishesWaves batch waves n (Err (errors.Missing w)) = ⊥
FinishesWaves batch waves n (Err (errors.Extra given due)) = (given ≡ n) × (due ≡ length waves) × (length waves < n)
FinishesWaves batch waves n (Err errors.OutOfMemory) = ⊤
