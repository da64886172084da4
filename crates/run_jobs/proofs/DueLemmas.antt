-- The wave that is due next.
use Rattle.std.proofs.Common.{◌≡◌, ◌∙◌, ℕ, ◌≤◌, ◌⊎◌, inl, inr, List, length, Bool, true, false, cond, Option, None}
use Rattle.std.proofs.Common.{Result, Ok, Err, refl, sym, ap, arith}
use Rattle.run_capture.specs.Faults.{Rose}
use Rattle.run_events.specs.declared.ask.Ask.{Ask}
use Rattle.run_events.specs.declared.events.ReporterEvent.{ReporterEvent}
use Rattle.run_events.specs.declared.plan.Plan.{Plan}
use Rattle.run_events.specs.declared.turn.Turn.{Turn}
use Rattle.run_engine.specs.Builder.{Builder}
use Rattle.run_engine.specs.World.{Outside}
use Rattle.run_engine.specs.declared.errors.TestRunnerExecuteErrors.{TestRunnerExecuteErrors}
use Rattle.run_jobs.specs.declared.job.JobState.{JobState}
use Rattle.run_jobs.specs.declared.waves_error.WavesError.{WavesError}
use Rattle.run_jobs.specs.declared.waves_error.WavesError.TheVariants as errors
use Rattle.run_jobs.specs.Due.{IsPlanAt, PlansNext, PlansNone, RunsAgain}
use Rattle.run_jobs.specs.Jobs.{Batch}
use Rattle.run_jobs.specs.Levels.{AreOrdered}
use Rattle.run_jobs.specs.Next.{AnswersDue}
use Rattle.run_jobs.specs.States.{states_after}
use Rattle.run_jobs.specs.WavePlan.{wave_of, wave_with}
use Rattle.run_jobs.specs.Waves.{AnswersWaves, ComesTo, wants_memory}
use Rattle.run_jobs.proofs.ComesLemmas.{says_comes}
use Rattle.run_jobs.proofs.NextLemmas.{enough}
use Rattle.run_jobs.proofs.StateLemmas.{ready_known}

-- the turns of a wave come to its error, unless memory was wanting
wave_comes_to : {R E C : Type 0} (tells : R → List (ReporterEvent × Option E) → Type 0)
    (asks : C → List (ℕ × Ask) → Type 0) (o : Outside R C) (batch : Batch) (lists : List (List Turn)) (n : ℕ)
    (x : TestRunnerExecuteErrors E) → AnswersWaves tells asks o batch lists (Err (errors.Wave n x))
    → ¬ Rose o.faults o.faults_after → (b : Bool) → wants_memory {E = E} (Err (errors.Wave n x)) ≡ b
    → (wants_memory {E = E} (Err (errors.Wave n x)) ≡ true) ⊎ ComesTo {E = E} batch lists (Err (errors.Wave n x))
wave_comes_to tells asks o batch lists n x says still true wants = inl wants
wave_comes_to tells asks o batch lists n x says still false wants =
    inr (says_comes tells asks o batch lists (Err (errors.Wave n x)) says still wants)

-- with a reporter that refused nothing
pub runs_again : {R E C : Type 0} (tells : R → List (ReporterEvent × Option E) → Type 0)
    (asks : C → List (ℕ × Ask) → Type 0) (o : Outside R C) (batch : Batch) (lists : List (List Turn))
    (states : List (Option JobState)) (result : Result ℕ (WavesError E))
    → AnswersDue tells asks o batch lists states result → ¬ Rose o.faults o.faults_after
    → RunsAgain batch lists states result
runs_again tells asks o batch lists states (Ok n) due still = (due.0, due.1, due.2, due.3)
runs_again tells asks o batch lists states (Err (errors.Wave n x)) due still =
    wave_comes_to tells asks o batch lists n x due still _ refl
runs_again tells asks o batch lists states (Err (errors.Missing n)) due still =
    (due.0, due.1, due.2, due.3, due.4, due.5)
runs_again tells asks o batch lists states (Err (errors.Extra g u)) due still =
    inr (says_comes tells asks o batch lists (Err (errors.Extra g u)) due still refl)
runs_again tells asks o batch lists states (Err errors.OutOfMemory) due still = inl refl

-- where no wave is due any more
pub plans_none : {E : Type 0} (batch : Batch) (lists : List (List Turn)) (states : List (Option JobState)) (n : ℕ)
    (result : Result (Option (Builder × Plan)) (WavesError E)) → RunsAgain {E = E} batch lists states (Ok n)
    → PlansNone (length lists) n result → PlansNext batch lists result
plans_none batch lists states n (Ok next) ran none =
    let count : n ≡ length ran.0 = ran.3 in
    let low : length ran.0 ≤ length lists = enough batch lists ran.0 ran.1 in (
      ran.0,
      ran.1,
      omega (arith, none.0, count, low),
      none.1
          ∙ sym (ap (λ b. cond b (wave_of batch (states_after batch.jobs ran.0) (length ran.0)) None) ran.2),
    )
plans_none batch lists states n (Err (errors.Extra g u)) ran none =
    inr (ran.0, ran.1, ran.2, none.1 ∙ ran.3, none.0, omega (arith, none.0, none.1, none.2))
plans_none batch lists states n (Err (errors.Wave m x)) ran none = absurd none
plans_none batch lists states n (Err (errors.Missing m)) ran none = absurd none
plans_none batch lists states n (Err errors.OutOfMemory) ran none = absurd none

-- where one is, and has no list
pub plans_some : {E : Type 0} (batch : Batch) (lists : List (List Turn)) (states : List (Option JobState)) (n : ℕ)
    (result : Result (Option (Builder × Plan)) (WavesError E)) → AreOrdered batch.jobs
    → RunsAgain {E = E} batch lists states (Err (errors.Missing n)) → IsPlanAt batch states n result
    → PlansNext batch lists result
plans_some batch lists states n (Ok next) ordered ran plan = (
  ran.0,
  ran.1,
  sym (ran.4 ∙ ran.3),
  plan ∙ ap (wave_with batch) (ready_known batch.jobs ran.0 states n ordered ran.5)
      ∙ ap (λ m. wave_of batch (states_after batch.jobs ran.0) m) ran.3
      ∙ sym (ap (λ b. cond b (wave_of batch (states_after batch.jobs ran.0) (length ran.0)) None) ran.2),
)
plans_some batch lists states n (Err errors.OutOfMemory) ordered ran plan = inl refl
plans_some batch lists states n (Err (errors.Wave m x)) ordered ran plan = cc
plans_some batch lists states n (Err (errors.Missing m)) ordered ran plan = cc
plans_some batch lists states n (Err (errors.Extra g u)) ordered ran plan = cc
