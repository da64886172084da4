-- What was answered is what lists of turns come to.
use Rattle.std.proofs.Common.{◌≡◌, ◌∙◌, ℕ, ◌⊎◌, inl, inr, List, take, Bool, true, false, Option, Some, None}
use Rattle.std.proofs.Common.{is_none}
use Rattle.std.proofs.Common.{Result, Ok, Err, refl, sym, ap, subst}
use Rattle.run_capture.specs.Faults.{Rose}
use Rattle.run_events.specs.declared.ask.Ask.{Ask}
use Rattle.run_events.specs.declared.events.ReporterEvent.{ReporterEvent}
use Rattle.run_events.specs.declared.outcome.RunOutcome.{RunOutcome}
use Rattle.run_events.specs.declared.settings.Settings.{Settings}
use Rattle.run_events.specs.declared.turn.Turn.{Turn}
use Rattle.run_laws.specs.Course.{IsJournalOf, refuses_none, turns_of}
use Rattle.run_laws.proofs.board.Courses.{unrefused}
use Rattle.run_engine.specs.Execution.{Carries, Executes, UnlessMemory}
use Rattle.run_engine.specs.World.{CountsErrors, Outside}
use Rattle.run_engine.specs.declared.errors.TestRunnerExecuteErrors.{TestRunnerExecuteErrors}
use Rattle.run_engine.specs.declared.errors.TestRunnerExecuteErrors.TheVariants as engine
use Rattle.run_jobs.specs.declared.job.JobState.{JobState}
use Rattle.run_jobs.specs.declared.waves_error.WavesError.{WavesError}
use Rattle.run_jobs.specs.declared.waves_error.WavesError.TheVariants as errors
use Rattle.run_jobs.specs.Jobs.{Batch}
use Rattle.run_jobs.specs.States.{Wave}
use Rattle.run_jobs.specs.Waves.{AnswersWaves, ComesTo, ComesToError, TellsAndStops, next_settings, wants_memory}
use Rattle.run_jobs.proofs.OneLemmas.{one_answer}

-- a count of faults that didn't rise is that of no refusal
none_from : {E : Type 0} (refusal : Option E) (before now : ℕ) → CountsErrors before now refusal → ¬ Rose before now
    → refusal ≡ None
none_from None before now counted still = refl
none_from (Some e) before now counted still = absurd (still counted.1)

-- a legal journal of the first turns, with a reporter that refused nothing
calm_journal : {R E C : Type 0} (tells : R → List (ReporterEvent × Option E) → Type 0)
    (asks : C → List (ℕ × Ask) → Type 0) (o : Outside R C) (p : Settings) (turns : List Turn)
    (answer : Result RunOutcome (TestRunnerExecuteErrors E)) (x : Carries tells asks o p turns answer)
    → ¬ Rose o.faults o.faults_after → (first : List Turn) → turns_of x.journal ≡ first
    → IsJournalOf p first refuses_none x.journal
calm_journal tells asks o p turns answer x still first takes = record {
  legal = x.takes.runnable.legal;
  takes = takes;
  answers = unrefused x.journal
      (sym x.takes.marked ∙ ap is_none (none_from x.refusal o.faults o.faults_after x.takes.counted still));
}

none_some : {E : Type 0} (o : Option E) (e : E) → o ≡ None → o ≡ Some e → ⊥
none_some None e none some = cc
none_some (Some d) e none some = cc

unless_memory : {E : Type 0} {F : Type 0} (error : TestRunnerExecuteErrors E) → F
    → UnlessMemory {E = E} (Err error) F
unless_memory (engine.Report e) x = x
unless_memory (engine.NotEnabled i) x = x
unless_memory (engine.ThirdSignal i) x = x
unless_memory engine.Unfinished x = x
unless_memory engine.OutOfMemory x = tt

wave_comes : {R E C : Type 0} (tells : R → List (ReporterEvent × Option E) → Type 0)
    (asks : C → List (ℕ × Ask) → Type 0) (o : Outside R C) (p : Settings) (turns : List Turn) (n : ℕ)
    (error : TestRunnerExecuteErrors E) → UnlessMemory (Err error) (Executes tells asks o p turns (Err error))
    → ¬ Rose o.faults o.faults_after → wants_memory {E = E} (Err (errors.Wave n error)) ≡ false
    → ComesToError p turns error
wave_comes tells asks o p turns n (engine.Report e) x still some =
    absurd (none_some x.call.refusal e (none_from x.call.refusal o.faults o.faults_after x.call.takes.counted still)
    x.call.says.2)
wave_comes tells asks o p turns n (engine.NotEnabled i) x still some = (
  x.call.journal,
  calm_journal tells asks o p turns (Err (engine.NotEnabled i)) x.call still (take i turns) x.call.says.0,
  x.call.says.1,
)
wave_comes tells asks o p turns n (engine.ThirdSignal i) x still some = (
  x.call.journal,
  calm_journal tells asks o p turns (Err (engine.ThirdSignal i)) x.call still (take i turns) x.call.says.0,
  x.call.says.1,
)
wave_comes tells asks o p turns n engine.Unfinished x still some = (
  x.call.journal,
  calm_journal tells asks o p turns (Err engine.Unfinished) x.call still turns x.call.says.0,
  x.call.says.1,
)
wave_comes tells asks o p turns n engine.OutOfMemory x still some = cc

moved : {R E C : Type 0} (tells : R → List (ReporterEvent × Option E) → Type 0)
    (asks : C → List (ℕ × Ask) → Type 0) (o : Outside R C) (batch : Batch) (waves : List Wave) (turns : List
    Turn) (n : ℕ)
    (error : TestRunnerExecuteErrors E) → TellsAndStops tells asks o batch waves turns error
    → ¬ Rose o.faults o.faults_after → wants_memory {E = E} (Err (errors.Wave n error)) ≡ false
    → ComesToError (next_settings batch waves) turns error
moved tells asks o batch waves turns n error x still some =
    wave_comes tells asks (record o { report = x.report; children = x.children; faults = x.faults })
    (next_settings batch waves) turns n error (unless_memory error x.stops)
    (subst (λ f. ¬ Rose f o.faults_after) (sym x.ran.calm) still) some

-- the same of the error of a wave
stops_comes : {R E C : Type 0} (tells : R → List (ReporterEvent × Option E) → Type 0)
    (asks : C → List (ℕ × Ask) → Type 0) (o : Outside R C) (batch : Batch) (waves : List Wave) (turns : List
    Turn) (n : ℕ)
    (error : TestRunnerExecuteErrors E) → UnlessMemory (Err error) (TellsAndStops tells asks o batch waves turns error)
    → ¬ Rose o.faults o.faults_after → wants_memory {E = E} (Err (errors.Wave n error)) ≡ false
    → ComesToError (next_settings batch waves) turns error
stops_comes tells asks o batch waves turns n (engine.Report e) x still some =
    moved tells asks o batch waves turns n (engine.Report e) x still some
stops_comes tells asks o batch waves turns n (engine.NotEnabled i) x still some =
    moved tells asks o batch waves turns n (engine.NotEnabled i) x still some
stops_comes tells asks o batch waves turns n (engine.ThirdSignal i) x still some =
    moved tells asks o batch waves turns n (engine.ThirdSignal i) x still some
stops_comes tells asks o batch waves turns n engine.Unfinished x still some =
    moved tells asks o batch waves turns n engine.Unfinished x still some
stops_comes tells asks o batch waves turns n engine.OutOfMemory x still some = cc

pub says_comes : {R E C : Type 0} (tells : R → List (ReporterEvent × Option E) → Type 0)
    (asks : C → List (ℕ × Ask) → Type 0) (o : Outside R C) (batch : Batch) (lists : List (List Turn))
    (result : Result (List JobState) (WavesError E)) → AnswersWaves tells asks o batch lists result
    → ¬ Rose o.faults o.faults_after → wants_memory result ≡ false → ComesTo batch lists result
says_comes tells asks o batch lists (Ok states) x still some = (x.0, x.1, x.2, x.3, x.4)
says_comes tells asks o batch lists (Err (errors.Wave n error)) x still some = (
  x.0,
  x.1,
  x.2,
  x.3,
  (
    x.4.0,
    x.4.1,
    stops_comes tells asks o batch x.0 x.4.0 n error x.4.2 still some,
  ),
)
says_comes tells asks o batch lists (Err (errors.Missing n)) x still some = (x.0, x.1, x.2, x.3, x.4)
says_comes tells asks o batch lists (Err (errors.Extra given due)) x still some = (x.0, x.1, x.2, x.3, x.4, x.5)
says_comes tells asks o batch lists (Err errors.OutOfMemory) x still some = cc

-- so it is their answer, unless memory was wanting
pub answers_one : {R E C : Type 0} (tells : R → List (ReporterEvent × Option E) → Type 0)
    (asks : C → List (ℕ × Ask) → Type 0) (o : Outside R C) (batch : Batch) (lists : List (List Turn))
    (result answer : Result (List JobState) (WavesError E)) → AnswersWaves tells asks o batch lists result
    → ¬ Rose o.faults o.faults_after → ComesTo batch lists answer
    → (result ≡ answer) ⊎ (wants_memory result ≡ true)
answers_one tells asks o batch lists result answer says still comes = by_memory (wants_memory result) refl
  where
    by_memory : (b : Bool) → wants_memory result ≡ b → (result ≡ answer) ⊎ (wants_memory result ≡ true)
    by_memory true wants = inr wants
    by_memory false some =
        inl (one_answer batch lists result answer (says_comes tells asks o batch lists result says still some) comes)
