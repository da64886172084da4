-- The turn of one of a list of units.
use Rattle.std.specs.Prelude.{ℕ, ◌≡◌, ◌≤◌, List, Option, Some, None, true, option_map, slice_index_or}
use Rattle.run_model.specs.declared.unit_turn.UnitTurn.{UnitTurn}
use Rattle.run_model.specs.declared.unit_view.UnitView.{UnitView}
use Rattle.run_model.specs.Board.{Deed}
use Rattle.run_model.specs.Turns.{taken_deed}
use Rattle.run_model.specs.Unit.{row, takes}

-- a unit may take a turn at this moment: it was admitted, it takes the turn, and its latest moment isn't after this one
abbrev pub MayTake : ℕ → ℕ → UnitTurn → List (Option UnitView) → Type 0
MayTake now unit turn units =
    (u : UnitView) × (slice_index_or units unit None ≡ Some u) × (takes now u turn ≡ true) × (u.latest ≤ now)

-- what it does by that
abbrev pub unit_deed : ℕ → ℕ → UnitTurn → List (Option UnitView) → Deed
unit_deed now unit turn units = taken_deed now unit turn (slice_index_or units unit None)

-- what it is after that
abbrev pub unit_next : ℕ → ℕ → UnitTurn → List (Option UnitView) → Option UnitView
unit_next now unit turn units = option_map (λ u. (row now turn u).next) (slice_index_or units unit None)
