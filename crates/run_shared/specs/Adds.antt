-- What one turn adds to a run.
use Rattle.std.specs.Prelude.{ℕ, ◌≡◌, ◌+◌, List, [], ◌∷◌, ◌++◌, length, Bool, Option, Some, None, IsTrue}
use Rattle.run_events.specs.declared.turn.Turn.{Turn}
use Rattle.run_model.specs.Words.{events_in}
use Rattle.run_model.specs.Turns.{enabled}
use Rattle.run_engine.specs.World.{World, history_of, next_happening, entry_of}

-- the turn was enabled, and the run has one entry more, that of the turn with an answer to each of its events
pub record AddsTurn (old : World) (turn : Turn) (new : World) : Type 0 where
  pub is_enabled : IsTrue (enabled old.settings (history_of old) turn)
  pub refused : List Bool
  pub answered : length refused ≡ length (events_in (next_happening old turn refused))
  pub grown : new ≡ record old { journal = old.journal ++ entry_of turn refused ∷ [] }

-- the same where a turn was settled, at its place, which the share counts; else all stays
abbrev pub AddsSettled : World → World → ℕ → ℕ → Option (ℕ × Turn) → Type 0
AddsSettled old new before now None = (new ≡ old) × (now ≡ before)
AddsSettled old new before now (Some p) = (p.0 ≡ length old.journal) × AddsTurn old p.1 new × (now ≡ before + 1)
