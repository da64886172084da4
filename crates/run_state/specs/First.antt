-- The first unit that is in a phase.
use Rattle.std.specs.Prelude.{ℕ, ◌≡◌, ◌<◌, List, Option, Some, None, option_map, slice_index_or}
use Rattle.run_model.specs.declared.phase.Phase.{Phase}
use Rattle.run_model.specs.declared.unit_view.UnitView.{UnitView}

-- the phase of a unit, none before its admission
abbrev pub phase_of : Option UnitView → Option Phase
phase_of u = option_map (λ u. u.phase) u

-- the unit of this number is the first that is in a phase; none is in it
pub record IsFirstIn (us : List (Option UnitView)) (phase : Phase) (unit : ℕ) : Type 0 where
  pub is : phase_of (slice_index_or us unit None) ≡ Some phase
  pub before : (k : ℕ) → k < unit → phase_of (slice_index_or us k None) ≡ Some phase → ⊥

abbrev pub NoneIsIn : List (Option UnitView) → Phase → Type 0
NoneIsIn us phase = (k : ℕ) → phase_of (slice_index_or us k None) ≡ Some phase → ⊥
