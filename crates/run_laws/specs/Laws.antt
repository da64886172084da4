-- The laws of every legal journal.
use Rattle.std.specs.Prelude.{ℕ, ◌≡◌, ◌≤◌, List, ◌∷◌, ◌++◌, true, Some}
use Rattle.std.specs.List.{All, Contains}
use Rattle.run_events.specs.declared.settings.Settings.{Settings}
use Rattle.run_model.specs.declared.entry.Entry.{Entry}
use Rattle.run_model.specs.declared.happening.Happening.{Happening}
use Rattle.run_model.specs.declared.unit_turn.UnitTurn.TheVariants.{Due}
use Rattle.run_model.specs.declared.unit_view.UnitView.{UnitView}
use Rattle.run_model.specs.Unit.{takes}
use Rattle.run_model.specs.Admission.{unit_terms}
use Rattle.run_model.specs.Attempts.{pieces_of, statuses_of, attempt_in, start_in, is_due_in}
use Rattle.run_model.specs.Board.{board, step, answered}
use Rattle.run_model.specs.Turns.{enabled, happening, deed_on}
use Rattle.run_model.specs.Journal.{IsLegal, past_of}
use Rattle.run_model.specs.Words.{is_over, sub_run, ended_runs, told, unit_of}
use Rattle.run_model.specs.Accounts.{IsAccounted}
use Rattle.run_model.specs.Fates.{HaveFates}

-- after every legal journal each unit has its account in the newest sub-run
abbrev pub AccountsHold : Type 0
AccountsHold = (p : Settings) (journal : List Entry) → IsLegal p journal → (k : ℕ)
    → IsAccounted p k (sub_run (past_of p journal))

-- a unit is at the attempt that its own turns in a sub-run say, and those that have ended are as they say; its timer is
-- due at a moment from its latest turn on exactly where they say so
pub record IsMadeByItsTurns (p : Settings) (run : List Happening) (k : ℕ) (u : UnitView) : Type 0 where
  pub statuses : u.statuses ≡ statuses_of p k run
  pub attempt : u.attempt ≡ attempt_in (pieces_of k run)
  pub start : u.timers.stopwatch.start ≡ start_in (pieces_of k run)
  pub due : (now : ℕ) → u.latest ≤ now → takes now u Due ≡ is_due_in (unit_terms p k) now (pieces_of k run)

-- after every legal journal that holds of each admitted unit in the newest sub-run
abbrev pub AttemptsAreOwnTurns : Type 0
AttemptsAreOwnTurns = (p : Settings) (journal : List Entry) → IsLegal p journal → (k : ℕ) (u : UnitView)
    → unit_of k (sub_run (past_of p journal)) ≡ Some u → IsMadeByItsTurns p (sub_run (past_of p journal)) k u

-- in every legal journal each script and each test of the plan has its fate in each sub-run that has ended
abbrev pub EachHasFate : Type 0
EachHasFate = (p : Settings) (journal : List Entry) → IsLegal p journal
    → All (HaveFates p) (ended_runs (past_of p journal))

-- where the run is over its newest sub-run has ended
abbrev pub OverHasEnded : Type 0
OverHasEnded = (p : Settings) (journal : List Entry) → IsLegal p journal → is_over (past_of p journal) ≡ true
    → Contains (ended_runs (past_of p journal)) (sub_run (past_of p journal))

-- a list and what follows it
abbrev pub Extends : {X : Type 0} → List X → List X → Type 0
Extends {X} xs ys = (more : List X) × (ys ≡ xs ++ more)

-- the events of a legal journal are the first of those of every legal journal that extends it
abbrev pub EventsExtend : Type 0
EventsExtend = (p : Settings) (journal more : List Entry) → IsLegal p (journal ++ more)
    → Extends (told (past_of p journal)) (told (past_of p (journal ++ more)))

-- after a legal journal each enabled turn moves the board by its step, and the reporter's answers to its events
abbrev pub BoardsStep : Type 0
BoardsStep = (p : Settings) (journal : List Entry) (e : Entry) → IsLegal p journal
    → enabled p (past_of p journal) e.turn ≡ true
    → board p (happening p (past_of p journal) e ∷ past_of p journal)
    ≡ answered (step (board p (past_of p journal)) e.turn (deed_on p (board p (past_of p journal)) e.turn)) e.refused
