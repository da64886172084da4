-- Units of which nothing is kept, once they are over.
use Rattle.std.specs.Prelude.{ℕ, List, Option, Some, None, if◌then◌else◌, slice_index_or, slice_set}
use Rattle.run_events.specs.declared.settings.Settings.{Settings}
use Rattle.run_model.specs.declared.unit_view.UnitView.{UnitView}
use Rattle.run_model.specs.Admission.{is_script}
use Rattle.run_unit.specs.Gone.{gone, is_spent}

-- a unit, of which nothing is kept where it is over and no request waits for it
abbrev pub forgotten : Option UnitView → Option UnitView
forgotten None = None
forgotten (Some u) = if is_spent u then Some gone else Some u

-- the units, where that of this number is forgotten
abbrev pub forgotten_at : ℕ → List (Option UnitView) → List (Option UnitView)
forgotten_at unit us = slice_set us unit (forgotten (slice_index_or us unit None))

-- the same, where no script is
abbrev pub test_forgotten : Settings → ℕ → List (Option UnitView) → List (Option UnitView)
test_forgotten p unit us = if is_script p unit then us else forgotten_at unit us
