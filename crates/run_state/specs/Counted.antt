-- What is kept of the units of a run beside them.
use Rattle.std.specs.Prelude.{ℕ, ◌+◌, List, [], ◌∷◌, map, count_by, if◌then◌else◌, Bool, false, not, Option, Some, None}
use Rattle.run_events.specs.declared.request.Request.{Request}
use Rattle.run_model.specs.declared.unit_view.UnitView.{UnitView}
use Rattle.run_model.specs.Admission.{is_done, is_last}
use Rattle.run_model.specs.Turns.{holds}

-- whether a unit isn't over
abbrev pub is_left : Option UnitView → Bool
is_left u = not (is_done u)

-- whether a unit was admitted and isn't over
abbrev pub is_working : Option UnitView → Bool
is_working None = false
is_working (Some u) = not (is_last u.phase)

-- the places of those that are true, the first of which has this number
abbrev pub places : ℕ → List Bool → List ℕ
places i [] = []
places i (b ∷ bs) = if b then i ∷ places (i + 1) bs else places (i + 1) bs

-- the numbers of the units that were admitted and aren't over, in ascending order
abbrev pub working_in : List (Option UnitView) → List ℕ
working_in us = places 0 (map is_working us)

-- whether a unit has in its line what the open round asks, and how many units have
abbrev pub holds_asked : Option Request → Option UnitView → Bool
holds_asked None u = false
holds_asked (Some request) u = holds request u

abbrev pub holders_in : Option Request → List (Option UnitView) → ℕ
holders_in asks us = count_by (holds_asked asks) us
