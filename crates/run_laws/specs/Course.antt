-- The course of a list of turns with a reporter: it stops at one that isn't enabled, it leaves the run unfinished, or
-- it ends the run.
use Rattle.std.specs.Prelude.{ℕ, ◌≡◌, ◌<◌, List, [], ◌∷◌, ◌++◌, map, take, length, slice_get, slice_index_or, Bool}
use Rattle.std.specs.Prelude.{true, false, not, Some}
use Rattle.std.specs.List.{list_all}
use Rattle.run_events.specs.declared.settings.Settings.{Settings}
use Rattle.run_events.specs.declared.turn.Turn.{Turn}
use Rattle.run_events.specs.declared.outcome.RunOutcome.{RunOutcome}
use Rattle.run_model.specs.declared.entry.Entry.{Entry}
use Rattle.run_model.specs.declared.happening.Happening.{Happening}
use Rattle.run_model.specs.Words.{is_over}
use Rattle.run_model.specs.Board.{board}
use Rattle.run_model.specs.Turns.{enabled, is_third_signal}
use Rattle.run_model.specs.Journal.{past_of, IsLegal, outcome}

-- the turns of a journal
abbrev pub turns_of : List Entry → List Turn
turns_of journal = map (λ e. e.turn) journal

-- of each event told in it, in order, whether the reporter refused it
abbrev pub refusals : List Entry → List Bool
refusals [] = []
refusals (e ∷ later) = e.refused ++ refusals later

-- no event was refused
abbrev pub none_refused : List Entry → Bool
none_refused journal = list_all not (refusals journal)

-- a reporter: of the nth event that it is told in a run, counted from 0, whether it refuses it. One that refuses none,
-- and one that answers as in this journal
abbrev pub refuses_none : ℕ → Bool
refuses_none n = false

abbrev pub refuses_as_in : List Entry → ℕ → Bool
refuses_as_in journal n = slice_index_or (refusals journal) n false

-- the answers in a journal are those of this reporter
abbrev pub AreAnswersOf : (ℕ → Bool) → List Entry → Type 0
AreAnswersOf refuses journal = (n : ℕ) → n < length (refusals journal)
    → slice_index_or (refusals journal) n false ≡ refuses n

-- a legal journal of these turns with this reporter
pub record IsJournalOf (p : Settings) (turns : List Turn) (refuses : ℕ → Bool) (journal : List Entry) : Type 0 where
  pub legal : IsLegal p journal
  pub takes : turns_of journal ≡ turns
  pub answers : AreAnswersOf refuses journal

-- whether a turn after a history is a shutdown signal that is taken no more, since two came before it
abbrev pub is_third_after : Settings → List Happening → Turn → Bool
is_third_after p past turn = is_third_signal (board p past) turn

-- with this reporter the turns before this place are those of a legal journal, after which the turn there isn't
-- enabled, and is a third signal or not
abbrev pub Stops : Settings → List Turn → (ℕ → Bool) → ℕ → Bool → Type 0
Stops p turns refuses place third =
    (journal : List Entry) × IsJournalOf p (take place turns) refuses journal
    × ((turn : Turn) × (slice_get turns place ≡ Some turn) × (enabled p (past_of p journal) turn ≡ false)
    × (is_third_after p (past_of p journal) turn ≡ third))

-- with this reporter all turns are those of a legal journal, after which the run isn't over
abbrev pub GoesOn : Settings → List Turn → (ℕ → Bool) → Type 0
GoesOn p turns refuses = (journal : List Entry) × IsJournalOf p turns refuses journal
    × (is_over (past_of p journal) ≡ false)

-- with this reporter all turns are those of a legal journal, after which the run is over with this outcome
abbrev pub Ends : Settings → List Turn → (ℕ → Bool) → RunOutcome → Type 0
Ends p turns refuses o = (journal : List Entry) × IsJournalOf p turns refuses journal
    × (outcome p (past_of p journal) ≡ Some o)

-- a list of turns has one journal at most with a reporter, and one course
pub record HasOneCourse (p : Settings) (turns : List Turn) (refuses : ℕ → Bool) : Type 0 where
  pub one_journal : (journal other : List Entry) → IsJournalOf p turns refuses journal
      → IsJournalOf p turns refuses other → other ≡ journal
  pub one_stop : (a b : ℕ) (s t : Bool) → Stops p turns refuses a s → Stops p turns refuses b t → (a ≡ b) × (s ≡ t)
  pub stop_or_unfinished : (a : ℕ) (s : Bool) → Stops p turns refuses a s → GoesOn p turns refuses → ⊥
  pub stop_or_end : (a : ℕ) (s : Bool) (o : RunOutcome) → Stops p turns refuses a s → Ends p turns refuses o → ⊥
  pub unfinished_or_end : (o : RunOutcome) → GoesOn p turns refuses → Ends p turns refuses o → ⊥
  pub one_end : (o u : RunOutcome) → Ends p turns refuses o → Ends p turns refuses u → o ≡ u

abbrev pub CoursesExclude : Type 0
CoursesExclude = (p : Settings) (turns : List Turn) (refuses : ℕ → Bool) → HasOneCourse p turns refuses

-- where no event was refused the reporter is the one that refuses none
abbrev pub NoneRefused : Type 0
NoneRefused = (journal : List Entry) → none_refused journal ≡ true → AreAnswersOf refuses_none journal
