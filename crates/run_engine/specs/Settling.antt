-- The turn that a run takes by itself.
use Rattle.std.specs.Prelude.{ℕ, ◌≡◌, List, length, Option, Some, None, ⊤}
use Rattle.run_events.specs.declared.turn.Turn.{Turn}
use Rattle.run_events.specs.declared.ask.Ask.{Ask}
use Rattle.run_events.specs.declared.events.ReporterEvent.{ReporterEvent}
use Rattle.run_model.specs.Board.{board}
use Rattle.run_state.specs.Settle.{settling, first_enabled}
use Rattle.run_engine.specs.World.{World, Outside, TakesTurn, IsUntouched, history_of}
use Rattle.run_engine.specs.declared.errors.StepError.{StepError}
use Rattle.run_engine.specs.declared.errors.StepError.TheVariants.{NotEnabled, ThirdSignal, Full, OutOfMemory}

-- the first enabled turn of those that a run takes by itself, where units decide with this word
abbrev pub first_settled : World → ℕ → Option Turn
first_settled w word = first_enabled w.settings (board w.settings (history_of w)) (settling w.settings word)

-- a run takes the turn, or is untouched where there is none
abbrev pub Settles : {R E C : Type 0} → (R → List (ReporterEvent × Option E) → Type 0)
    → (C → List (ℕ × Ask) → Type 0) → Outside R C → World → World → Option Turn → Type 0
Settles tells asks o old new None = IsUntouched old new o
Settles {R} {E} tells asks o old new (Some turn) = (refusal : Option E) × TakesTurn tells asks o turn old new refusal

-- there is a turn to settle, and the journal is full; want of memory has no cause here
abbrev pub IsUnsettled : World → ℕ → StepError → Type 0
IsUnsettled w word NotEnabled = ⊥
IsUnsettled w word ThirdSignal = ⊥
IsUnsettled w word Full = (length w.journal ≡ 4294967295) × ((turn : Turn) × (first_settled w word ≡ Some turn))
IsUnsettled w word OutOfMemory = ⊤
