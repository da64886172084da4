-- What a turn of the run's own does to the state of a run.
use Rattle.std.specs.Prelude.{◌≡◌}
use Rattle.run_model.specs.Board.{Deed, deed_events, moved}
use Rattle.run_state.specs.declared.effects.Effects.{Effects}
use Rattle.run_state.specs.Held.{Held}

-- its deed is done, and what is kept beside the board is left
pub record Done (old : Held) (deed : Deed) (new : Held) (effects : Effects) : Type 0 where
  pub after : new.board ≡ moved old.board deed
  pub kept : new.kept ≡ old.kept
  pub told : effects.events ≡ deed_events deed
  pub asked : effects.asked ≡ deed.asked
