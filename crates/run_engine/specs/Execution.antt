-- What carrying out a list of turns does, and what each answer says of it.
use Rattle.std.specs.Prelude.{ℕ, ◌≡◌, ◌⊎◌, ◌<◌, List, take, slice_get, Bool, true, false, Option, Some, None, is_none}
use Rattle.std.specs.Prelude.{Result, Ok, Err, ⊤}
use Rattle.std.specs.List.{All, Contains}
use Rattle.run_events.specs.Tell.{Adds}
use Rattle.run_events.specs.declared.settings.Settings.{Settings}
use Rattle.run_events.specs.declared.turn.Turn.{Turn}
use Rattle.run_events.specs.declared.ask.Ask.{Ask}
use Rattle.run_events.specs.declared.events.ReporterEvent.{ReporterEvent}
use Rattle.run_events.specs.declared.outcome.RunOutcome.{RunOutcome}
use Rattle.run_model.specs.declared.entry.Entry.{Entry}
use Rattle.run_model.specs.Words.{answers, asked, is_over, sub_run, ended_runs}
use Rattle.run_model.specs.Fates.{HaveFates}
use Rattle.run_model.specs.Turns.{enabled}
use Rattle.run_model.specs.Journal.{past_of, outcome}
use Rattle.run_capture.specs.Faults.{Rose}
use Rattle.run_laws.specs.Course.{turns_of, is_third_after, none_refused, AreAnswersOf, Stops, GoesOn, Ends}
use Rattle.run_engine.specs.World.{Outside, TellsEvents, CountsErrors}
use Rattle.run_engine.specs.Standing.{IsRunnable}
use Rattle.run_engine.specs.Broken.{RunsOut}
use Rattle.run_engine.specs.declared.course.Stop.{Stop}
use Rattle.run_engine.specs.declared.course.Stop.TheVariants as stops
use Rattle.run_engine.specs.declared.errors.TestRunnerExecuteErrors.{TestRunnerExecuteErrors}
use Rattle.run_engine.specs.declared.errors.TestRunnerExecuteErrors.TheVariants.{Report, NotEnabled, ThirdSignal}
use Rattle.run_engine.specs.declared.errors.TestRunnerExecuteErrors.TheVariants.{Unfinished, OutOfMemory}

-- a run of this plan has taken the turns of a journal: the reporter has told its events and the children were asked
-- its asks, in order, and nothing else; the refusal is the reporter's first error, and there is one where an event was
-- refused
pub record TakesTurns {R E C : Type 0} (tells : R → List (ReporterEvent × Option E) → Type 0)
    (asks : C → List (ℕ × Ask) → Type 0) (o : Outside R C) (p : Settings) (journal : List Entry) (refusal : Option E)
    : Type 0 where
  pub runnable : IsRunnable p journal
  pub marked : is_none refusal ≡ none_refused journal
  pub told : TellsEvents tells o.report o.report_after (answers (past_of p journal)) refusal
  pub asked : Adds asks o.children o.children_after (asked (past_of p journal))
  pub counted : CountsErrors o.faults o.faults_after refusal

-- the turns before a place were taken, and the turn there isn't enabled after them, and is a third signal or not
abbrev pub IsRefusedAt : Settings → List Turn → List Entry → ℕ → Bool → Type 0
IsRefusedAt p turns journal place third = (turns_of journal ≡ take place turns) × ((turn : Turn)
    × (slice_get turns place ≡ Some turn) × (enabled p (past_of p journal) turn ≡ false)
    × (is_third_after p (past_of p journal) turn ≡ third))

-- what each answer says of the turns given, the journal of the call and the reporter's first error
abbrev pub IsAnswerOf : {E : Type 0} → Settings → List Turn → List Entry → Option E
    → Result RunOutcome (TestRunnerExecuteErrors E) → Type 0
IsAnswerOf p turns journal refusal (Ok o) =
    (turns_of journal ≡ turns) × (outcome p (past_of p journal) ≡ Some o) × (refusal ≡ None)
IsAnswerOf p turns journal refusal (Err (Report e)) =
    (turns_of journal ≡ turns) × (is_over (past_of p journal) ≡ true) × (refusal ≡ Some e)
IsAnswerOf p turns journal refusal (Err (NotEnabled i)) = IsRefusedAt p turns journal i false
IsAnswerOf p turns journal refusal (Err (ThirdSignal i)) = IsRefusedAt p turns journal i true
IsAnswerOf p turns journal refusal (Err Unfinished) =
    (turns_of journal ≡ turns) × (is_over (past_of p journal) ≡ false)
IsAnswerOf p turns journal refusal (Err OutOfMemory) = ⊤

-- a fact that holds unless memory was wanting
abbrev pub UnlessMemory : {E : Type 0} → Result RunOutcome (TestRunnerExecuteErrors E) → Type 0 → Type 0
UnlessMemory (Ok o) fact = fact
UnlessMemory (Err (Report e)) fact = fact
UnlessMemory (Err (NotEnabled i)) fact = fact
UnlessMemory (Err (ThirdSignal i)) fact = fact
UnlessMemory (Err Unfinished) fact = fact
UnlessMemory (Err OutOfMemory) fact = ⊤

-- the answer to turns that stop at a place, at a third signal or at another turn
abbrev pub stop_at : {E : Type 0} → ℕ → Bool → TestRunnerExecuteErrors E
stop_at place true = ThirdSignal place
stop_at place false = NotEnabled place

-- what each course of the turns with a reporter answers, unless memory was wanting: it stops, it leaves the run
-- unfinished, or it ends the run, where the reporter's count of faults stayed or rose
pub record AnswersCourse {R E C : Type 0} (o : Outside R C) (p : Settings) (turns : List Turn) (refuses : ℕ → Bool)
    (answer : Result RunOutcome (TestRunnerExecuteErrors E)) : Type 0 where
  pub stops : (place : ℕ) (third : Bool) → Stops p turns refuses place third
      → (answer ≡ Err (stop_at place third)) ⊎ (answer ≡ Err OutOfMemory)
  pub unfinished : GoesOn p turns refuses → (answer ≡ Err Unfinished) ⊎ (answer ≡ Err OutOfMemory)
  pub ended : (outcome : RunOutcome) → Ends p turns refuses outcome → ¬ Rose o.faults o.faults_after
      → (answer ≡ Ok outcome) ⊎ (answer ≡ Err OutOfMemory)
  pub refused : (outcome : RunOutcome) → Ends p turns refuses outcome → o.faults < o.faults_after
      → ((e : E) × (answer ≡ Err (Report e))) ⊎ (answer ≡ Err OutOfMemory)

-- the journal of a call that carries out turns, and what its answer says of it
pub record Carries {R E C : Type 0} (tells : R → List (ReporterEvent × Option E) → Type 0)
    (asks : C → List (ℕ × Ask) → Type 0) (o : Outside R C) (p : Settings) (turns : List Turn)
    (answer : Result RunOutcome (TestRunnerExecuteErrors E)) : Type 0 where
  pub journal : List Entry
  pub refusal : Option E
  pub takes : TakesTurns tells asks o p journal refusal
  pub says : IsAnswerOf p turns journal refusal answer

-- the same, and each test has its fate in each sub-run that has ended, which the newest is of a run that is over; and
-- with any reporter that answers so, the turns have the course that is answered
pub record Executes {R E C : Type 0} (tells : R → List (ReporterEvent × Option E) → Type 0)
    (asks : C → List (ℕ × Ask) → Type 0) (o : Outside R C) (p : Settings) (turns : List Turn)
    (answer : Result RunOutcome (TestRunnerExecuteErrors E)) : Type 0 where
  pub call : Carries tells asks o p turns answer
  pub fates : All (HaveFates p) (ended_runs (past_of p call.journal))
  pub over : is_over (past_of p call.journal) ≡ true
      → Contains (ended_runs (past_of p call.journal)) (sub_run (past_of p call.journal))
  pub course : (refuses : ℕ → Bool) → AreAnswersOf refuses call.journal → AnswersCourse o p turns refuses answer

-- a list of turns stops where the turn at that place isn't enabled after the turns before it
abbrev pub StopsHere : {R E C : Type 0} → (R → List (ReporterEvent × Option E) → Type 0)
    → (C → List (ℕ × Ask) → Type 0) → Outside R C → Settings → List Turn → List Entry → ℕ → Bool → Type 0
StopsHere {R} {E} tells asks o p turns journal place third =
    ((refusal : Option E) × TakesTurns tells asks o p journal refusal) × IsRefusedAt p turns journal place third

abbrev pub StopsAt : {R E C : Type 0} → (R → List (ReporterEvent × Option E) → Type 0) → (C → List (ℕ × Ask) → Type 0)
    → Outside R C → Settings → List Turn → List Entry → Stop → Type 0
StopsAt tells asks o p turns journal (stops.NotEnabled i) = StopsHere tells asks o p turns journal i false
StopsAt tells asks o p turns journal (stops.ThirdSignal i) = StopsHere tells asks o p turns journal i true
StopsAt tells asks o p turns journal stops.OutOfMemory = RunsOut tells asks o p turns journal

-- what is answered at the end of all turns, by the run's outcome and the reporter's first error
abbrev pub IsFinal : {E : Type 0} → Option RunOutcome → Option E → Result RunOutcome (TestRunnerExecuteErrors E)
    → Type 0
IsFinal ended refusal (Ok o) = (ended ≡ Some o) × (refusal ≡ None)
IsFinal ended refusal (Err (Report e)) = ((o : RunOutcome) × (ended ≡ Some o)) × (refusal ≡ Some e)
IsFinal ended refusal (Err Unfinished) = ended ≡ None
IsFinal ended refusal (Err _) = ⊥
