-- The state of a run, as its callers see it.
use Rattle.std.specs.Prelude.{ℕ, ◌≡◌, ◌-◌, List, Option, Some, None, nat_le, if◌then◌else◌, slice_set, true, false}
use Rattle.run_events.specs.declared.settings.Settings.{Settings}
use Rattle.run_admission.specs.declared.seat.Admitted.{Admitted}
use Rattle.run_admission.specs.InUse.{Admissions, admitted, released}
use Rattle.run_model.specs.declared.unit_view.UnitView.{UnitView}
use Rattle.run_model.specs.Admission.{scripts_in, limits_of, open_script, scripts_of, scripts_over, Newcomer}
use Rattle.run_model.specs.Environment.{number}
use Rattle.run_model.specs.Board.{Board}
use Rattle.run_unit.specs.Alike.{alike_of}
use Rattle.run_state.specs.declared.kept.Kept.{Kept}
use Rattle.run_state.specs.declared.admission.Next.{Next}
use Rattle.run_state.specs.declared.admission.Next.TheVariants.{Script, Test}

-- the board that turns read, and what is kept beside it
pub record Held : Type 0 where
  pub board : Board
  pub kept : Kept

-- what the units hold of the limits, and what their children have alike
abbrev pub kept_of : Settings → List (Option UnitView) → Kept
kept_of p us = record { limits = limits_of p us; alike = alike_of p }

-- what is kept beside the board is that of its units
abbrev pub KeepsSeats : Settings → Held → Type 0
KeepsSeats p h = h.kept ≡ kept_of p h.board.units

-- the state with this board
abbrev pub held : Settings → Board → Held
held p b = record { board = b; kept = kept_of p b.units }

-- a test comes next: all scripts are over, and the rule admits it
pub record Comes (p : Settings) (us : List (Option UnitView)) (next : Admitted) : Type 0 where
  pub scripts : scripts_over p us ≡ true
  pub is : admitted (limits_of p us) ≡ Some next

-- a script comes next: not all scripts are over, and that at this place is the next one
pub record Opens (p : Settings) (us : List (Option UnitView)) (place : ℕ) : Type 0 where
  pub scripts : scripts_over p us ≡ false
  pub is : open_script (scripts_of p us) ≡ Some place

-- a script, or a test, comes next
abbrev pub IsNext : Settings → List (Option UnitView) → Next → Type 0
IsNext p us (Script place) = Opens p us place
IsNext p us (Test admitted) = Comes p us admitted

-- the units with one that was admitted
abbrev pub units_with : Settings → List (Option UnitView) → Option Newcomer → List (Option UnitView)
units_with p us None = us
units_with p us (Some new) = slice_set us (number new.unit) (Some new.unit)

-- what is held of the limits after a unit is over: a test gives its part back, a script had none
abbrev pub given_back : Settings → Admissions → ℕ → Admissions
given_back p a unit = if nat_le (scripts_in p) unit then released a (unit - scripts_in p) else a
