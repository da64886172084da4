-- When a timer of a run is due.
use Rattle.std.specs.Prelude.{ℕ, Bool, ◌∷◌}
use Rattle.std.specs.List.{list_any}
use Rattle.run_events.specs.declared.settings.Settings.{Settings}
use Rattle.run_events.specs.declared.turn.Turn.TheVariants.{GlobalDue, InfoDue, StopWaitDue, UnitDue}
use Rattle.run_model.specs.Board.{Board}
use Rattle.run_model.specs.Turns.{enabled_on}
use Rattle.run_state.specs.Settle.{of_each}

-- a due turn is enabled on a board where its clock is at a moment: that of the run's timer, of the open round's wait,
-- or of a unit's timer
abbrev pub is_any_due : Settings → Board → ℕ → Bool
is_any_due p b now =
    list_any (enabled_on p (record b { clock = now })) (GlobalDue ∷ StopWaitDue ∷ InfoDue ∷ of_each p UnitDue)
