-- A run's fields stand for its journal.
use Rattle.std.specs.Prelude.{ℕ, ◌≡◌, ◌<◌, ◌^◌, List, length, true, false, Bool}
use Rattle.run_events.specs.declared.settings.Settings.{Settings}
use Rattle.run_model.specs.declared.entry.Entry.{Entry}
use Rattle.run_model.specs.Admission.{AreFew}
use Rattle.run_model.specs.Words.{is_over}
use Rattle.run_model.specs.Board.{board}
use Rattle.run_state.specs.Held.{Held, held}
use Rattle.run_model.specs.Journal.{past_of, IsLegal}
use Rattle.run_events.specs.declared.ask.StartAsk.{StartAsk}
use Rattle.run_engine.specs.World.{World}
use Rattle.run_engine.specs.Starts.{starts_of, AreClaimed}

-- a plan and a journal that a run may have: few units, few turns, and each of them was enabled
pub record IsRunnable (p : Settings) (journal : List Entry) : Type 0 where
  pub few : AreFew p
  pub short : length journal < 2 ^ 32
  pub legal : IsLegal p journal

-- a run that isn't broken has the board of its journal, and one that is isn't over; of the starts that its journal
-- asked so many were claimed
pub record IsStanding (p : Settings) (journal : List Entry) (state : Held) (broken : Bool) (waiting : List StartAsk)
    (claimed : ℕ) : Type 0 where
  pub runnable : IsRunnable p journal
  pub stands : broken ≡ false → state ≡ held p (board p (past_of p journal))
  pub unfinished : broken ≡ true → is_over (past_of p journal) ≡ false
  pub claims : AreClaimed (starts_of p journal) waiting claimed

-- a run that isn't broken, and of whose starts so many were claimed
abbrev pub unbroken : Settings → List Entry → ℕ → World
unbroken p journal claimed = record { settings = p; journal = journal; broken = false; claimed = claimed }

-- one that isn't broken and of whose starts none was claimed
abbrev pub sound : Settings → List Entry → World
sound p journal = unbroken p journal 0
