-- The wave that is due next.
use Rattle.std.specs.Prelude.{ℕ, ◌≡◌, ◌≤◌, ◌<◌, ◌^◌, ◌⊎◌, List, length, true, false, if◌then◌else◌, Option, None}
use Rattle.std.specs.Prelude.{Result, Ok, Err}
use Rattle.run_events.specs.declared.plan.Plan.{Plan}
use Rattle.run_events.specs.declared.turn.Turn.{Turn}
use Rattle.run_engine.specs.Builder.{Builder, refusal_of}
use Rattle.run_jobs.specs.declared.waves_error.WavesError.{WavesError}
use Rattle.run_jobs.specs.declared.waves_error.WavesError.TheVariants as errors
use Rattle.run_jobs.specs.declared.job.JobState.{JobState}
use Rattle.run_jobs.specs.Jobs.{Batch}
use Rattle.run_jobs.specs.Settled.{AreKnown}
use Rattle.run_jobs.specs.States.{Wave, states_after}
use Rattle.run_jobs.specs.WavePlan.{wave_of}
use Rattle.run_jobs.specs.Waves.{ComesTo, HaveRun, is_next_due, wants_memory}

-- the runner's settings and the plan of the next wave after these, where it is due
abbrev pub next_wave : Batch → List Wave → Option (Builder × Plan)
next_wave batch waves =
    if is_next_due batch waves then wave_of batch (states_after batch.jobs waves) (length waves) else None

-- a builder accepts a plan, which has fewer than 2^32 tests
abbrev pub IsPlanTaken : Builder × Plan → Type 0
IsPlanTaken p = (length p.1.tests < 2 ^ 32) × (refusal_of p.0 p.1 ≡ None)

-- what each answer says: waves ran by these lists of turns, one list for each, and this is the next one, where it is
-- due; or that is what the lists come to, unless memory was wanting
abbrev pub PlansNext : {E : Type 0} → Batch → List (List Turn) → Result (Option (Builder × Plan)) (WavesError E)
    → Type 0
PlansNext batch lists (Ok next) =
    (waves : List Wave) × HaveRun batch lists waves × (length waves ≡ length lists) × (next ≡ next_wave batch waves)
PlansNext batch lists (Err (errors.Missing n)) = ⊥
PlansNext {E} batch lists (Err error) =
    (wants_memory {E = E} (Err error) ≡ true) ⊎ ComesTo {E = E} batch lists (Err error)

-- what running the waves that are due once more answers: how many they were; that the next one has no list, and what
-- is known then of the jobs; or what the lists come to, unless memory was wanting
abbrev pub RunsAgain : {E : Type 0} → Batch → List (List Turn) → List (Option JobState) → Result ℕ (WavesError E)
    → Type 0
RunsAgain batch lists states (Ok n) =
    (waves : List Wave) × HaveRun batch lists waves × (is_next_due batch waves ≡ false) × (n ≡ length waves)
RunsAgain batch lists states (Err (errors.Missing n)) =
    (waves : List Wave) × HaveRun batch lists waves × (is_next_due batch waves ≡ true) × (n ≡ length waves)
    × (length lists ≡ n) × AreKnown batch.jobs waves states n
RunsAgain {E} batch lists states (Err error) =
    (wants_memory {E = E} (Err error) ≡ true) ⊎ ComesTo {E = E} batch lists (Err error)

-- no plan comes after so many waves, unless more lists were given
abbrev pub PlansNone : {E : Type 0} → ℕ → ℕ → Result (Option (Builder × Plan)) (WavesError E) → Type 0
PlansNone given due (Ok next) = (given ≤ due) × (next ≡ None)
PlansNone given due (Err (errors.Extra g u)) = (g ≡ given) × (u ≡ due) × (due < given)
PlansNone given due (Err _) = ⊥

-- the plan of a wave, by the states that are known
abbrev pub IsPlanAt : {E : Type 0} → Batch → List (Option JobState) → ℕ
    → Result (Option (Builder × Plan)) (WavesError E) → Type 0
IsPlanAt batch states w (Ok next) = next ≡ wave_of batch states w
IsPlanAt batch states w (Err error) = error ≡ errors.OutOfMemory
