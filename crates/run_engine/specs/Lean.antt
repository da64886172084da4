-- A run that keeps no journal: which journals it stands for, and what a step of it does.
use Rattle.std.specs.Prelude.{ℕ, ◌≡◌, List, Option, Some, None, Bool, false, option_map, if◌then◌else◌}
use Rattle.run_events.specs.declared.settings.Settings.{Settings}
use Rattle.run_events.specs.declared.turn.Turn.{Turn}
use Rattle.run_events.specs.declared.ask.Ask.{Ask}
use Rattle.run_events.specs.declared.events.ReporterEvent.{ReporterEvent}
use Rattle.run_model.specs.declared.entry.Entry.{Entry}
use Rattle.run_model.specs.Admission.{is_done}
use Rattle.run_model.specs.Board.{Board, unit_in}
use Rattle.run_state.specs.Held.{Held}
use Rattle.run_state.specs.Settle.{settling, first_enabled}
use Rattle.run_engine.specs.World.{Outside, TakesTurn}
use Rattle.run_engine.specs.Standing.{sound}
use Rattle.run_engine.specs.Unkept.{StandsAfter}

-- such a run: its settings, the state after its turns, how many it has taken, and whether want of memory broke it
pub record Lean : Type 0 where
  pub settings : Settings
  pub state : Held
  pub turns : ℕ
  pub broken : Bool

-- its state is the one after some journal of so many turns, unless it is broken
abbrev pub StandsUnlessBroken : Settings → Held → ℕ → Bool → Type 0
StandsUnlessBroken p state turns broken = broken ≡ false → (journal : List Entry) × StandsAfter p state turns journal

-- it stands for a journal
abbrev pub StandsForJournal : Lean → List Entry → Type 0
StandsForJournal r journal = StandsAfter r.settings r.state r.turns journal

-- it takes a turn after a journal, and stands for the longer one
pub record TakesOne {R E C : Type 0} (tells : R → List (ReporterEvent × Option E) → Type 0)
    (asks : C → List (ℕ × Ask) → Type 0) (o : Outside R C) (old new : Lean) (journal : List Entry) (turn : Turn)
    (refusal : Option E) : Type 0 where
  pub after : List Entry
  pub takes : TakesTurn tells asks o turn (sound old.settings journal) (sound old.settings after) refusal
  pub settings : new.settings ≡ old.settings
  pub stands : StandsForJournal new after

-- the run and the outside are as they were
abbrev pub IsAsBefore : {R C : Type 0} → Lean → Lean → Outside R C → Type 0
IsAsBefore old new o = (new ≡ old) × (o.report_after ≡ o.report) × (o.children_after ≡ o.children)

-- the attempt that a script or test is at, which was admitted and isn't over
abbrev pub attempt_at : Board → ℕ → Option ℕ
attempt_at b k = if is_done (unit_in b k) then None else option_map (λ u. u.attempt) (unit_in b k)

-- the first enabled turn of those that it takes by itself, where units decide with this word
abbrev pub settled_next : Lean → ℕ → Option Turn
settled_next r word = first_enabled r.settings r.state.board (settling r.settings word)

-- it takes this turn after each journal that it stood for, or is left as it was where there is none
abbrev pub SettlesOne : {R E C : Type 0} → (R → List (ReporterEvent × Option E) → Type 0)
    → (C → List (ℕ × Ask) → Type 0) → Outside R C → Lean → Lean → Option Turn → Type 0
SettlesOne tells asks o old new None = IsAsBefore old new o
SettlesOne {R} {E} tells asks o old new (Some turn) = (journal : List Entry) → StandsForJournal old journal
    → (refusal : Option E) × TakesOne tells asks o old new journal turn refusal
