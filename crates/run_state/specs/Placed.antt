-- Where the tests of a run stand among its units, and what is kept beside these.
use Rattle.std.specs.Prelude.{ℕ, ◌≡◌, ◌≤◌, ◌+◌, List, length, Bool, true, false, Option, Some, None, slice_index_or}
use Rattle.run_admission.specs.InUse.{Admissions}
use Rattle.run_events.specs.declared.request.Request.{Request}
use Rattle.run_model.specs.declared.unit_view.UnitRole.{UnitRole}
use Rattle.run_model.specs.declared.unit_view.UnitRole.TheVariants as roles
use Rattle.run_model.specs.declared.unit_view.UnitView.{UnitView}
use Rattle.run_state.specs.Counted.{holders_in}

-- whether a role is that of a test
abbrev pub is_test : UnitRole → Bool
is_test (roles.Test t) = true
is_test (roles.Script s) = false

-- a unit that isn't a script: it is a test, or wasn't admitted
abbrev pub is_no_script : Option UnitView → Bool
is_no_script None = true
is_no_script (Some u) = is_test u.role

-- the last units, as many as there are seats, are no scripts
abbrev pub AreTests : List (Option UnitView) → Admissions → Type 0
AreTests us a =
    (k : ℕ) (u : UnitView) → slice_index_or us k None ≡ Some u → length us ≤ k + length a.seats → is_test u.role ≡ true

-- each test has a seat
abbrev pub HasSeats : Admissions → Type 0
HasSeats a = length a.seats ≡ length a.claims

-- what is kept beside the units fits them: their tests stand last, so many have in their lines what the open round
-- asks, and each test has a seat
abbrev pub FitsUnits : Option Request → List (Option UnitView) → ℕ → Admissions → Type 0
FitsUnits asks us holders a = AreTests us a × (holders ≡ holders_in asks us) × HasSeats a
