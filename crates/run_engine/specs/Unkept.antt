-- Turns that are taken with no journal kept: the state alone stands for it, and forgets what no later turn reads.
use Rattle.std.specs.Prelude.{ℕ, ◌≡◌, List, length, true, false, Option, None, if◌then◌else◌}
use Rattle.run_events.specs.declared.settings.Settings.{Settings}
use Rattle.run_events.specs.declared.turn.Turn.{Turn}
use Rattle.run_events.specs.declared.ask.Ask.{Ask}
use Rattle.run_events.specs.declared.events.ReporterEvent.{ReporterEvent}
use Rattle.run_events.specs.declared.outcome.RunOutcome.{RunOutcome}
use Rattle.run_model.specs.declared.entry.Entry.{Entry}
use Rattle.run_model.specs.Board.{Board, board}
use Rattle.run_model.specs.Journal.{past_of}
use Rattle.run_laws.specs.Course.{turns_of}
use Rattle.run_state.specs.Held.{Held, KeepsSeats}
use Rattle.run_engine.specs.Forgotten.{IsForgotten}
use Rattle.run_engine.specs.World.{World, Outside, TakesTurn, IsUntouched}
use Rattle.run_engine.specs.Standing.{IsRunnable, sound}
use Rattle.run_engine.specs.Broken.{BreaksOff}
use Rattle.run_engine.specs.Refused.{IsNotTaken}
use Rattle.run_engine.specs.Execution.{TakesTurns}
use Rattle.run_engine.specs.declared.course.Stop.{Stop}
use Rattle.run_engine.specs.declared.course.Stop.TheVariants.{NotEnabled, ThirdSignal, OutOfMemory}

-- a state keeps a board, but for what was forgotten of it, and beside that what its units hold
pub record KeepsBoard (p : Settings) (b : Board) (state : Held) : Type 0 where
  pub board : IsForgotten p b state.board
  pub seats : KeepsSeats p state

-- a state is the one after a journal of so many turns
pub record StandsAfter (p : Settings) (state : Held) (place : ℕ) (journal : List Entry) : Type 0 where
  pub runnable : IsRunnable p journal
  pub stands : KeepsBoard p (board p (past_of p journal)) state
  pub many : place ≡ length journal

-- a run takes a turn after a journal, and the state stands for the longer journal
abbrev pub TakesUnkept : {R E C : Type 0} → (R → List (ReporterEvent × Option E) → Type 0)
    → (C → List (ℕ × Ask) → Type 0) → Outside R C → Settings → Held → List Entry → Turn → Option E → Type 0
TakesUnkept tells asks o p state journal turn refusal =
    (after : List Entry) × TakesTurn tells asks o turn (sound p journal) (sound p after) refusal
    × KeepsBoard p (board p (past_of p after)) state

-- the turn at this place stops a list: it isn't enabled in the run, which stays as it is with the outside, or it was
-- broken off
abbrev pub StopsUnkept : {R E C : Type 0} → (R → List (ReporterEvent × Option E) → Type 0)
    → (C → List (ℕ × Ask) → Type 0) → Outside R C → World → ℕ → Turn → Stop → Type 0
StopsUnkept tells asks o w place turn (NotEnabled i) = (i ≡ place) × IsNotTaken w turn false × IsUntouched w w o
StopsUnkept tells asks o w place turn (ThirdSignal i) = (i ≡ place) × IsNotTaken w turn true × IsUntouched w w o
StopsUnkept tells asks o w place turn OutOfMemory = BreaksOff tells asks o w.settings w.journal turn

-- these turns were taken one after another, and the state is the one after the journal of them
pub record TookAll {R E C : Type 0} (tells : R → List (ReporterEvent × Option E) → Type 0)
    (asks : C → List (ℕ × Ask) → Type 0) (o : Outside R C) (p : Settings) (taken : List Turn) (state : Held)
    (refusal : Option E) : Type 0 where
  pub journal : List Entry
  pub takes : TakesTurns tells asks o p journal refusal
  pub all : turns_of journal ≡ taken
  pub stands : KeepsBoard p (board p (past_of p journal)) state

-- the outcome of a run that is over, by its board
abbrev pub outcome_on : Board → Option RunOutcome
outcome_on b = if b.dispatcher.over then b.dispatcher.sub_runs.outcome else None
