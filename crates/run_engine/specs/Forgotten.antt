-- A board whose tests that are over are kept as other units: what a run that keeps no journal may forget.
use Rattle.std.specs.Prelude.{ℕ, ◌≡◌, ◌≤◌, ◌⊎◌, List, [], length, true, false, Option, Some, None, slice_index_or}
use Rattle.run_events.specs.declared.request.Request.{Request}
use Rattle.run_events.specs.declared.settings.Settings.{Settings}
use Rattle.run_model.specs.declared.entry.Entry.{Entry}
use Rattle.run_model.specs.declared.unit_view.UnitView.{UnitView}
use Rattle.run_model.specs.Admission.{is_done, is_script}
use Rattle.run_model.specs.Board.{Board, board}
use Rattle.run_model.specs.Journal.{past_of}

-- the requests that wait for a unit, and when it took its latest turn
abbrev pub line_kept : Option UnitView → List Request
line_kept None = []
line_kept (Some u) = u.line

abbrev pub latest_kept : Option UnitView → ℕ
latest_kept None = 0
latest_kept (Some u) = u.latest

-- the unit of this number is a test that is over and that no request waits for, and so is what is kept in its place,
-- which took no later turn
pub record AreOver (p : Settings) (k : ℕ) (u kept : Option UnitView) : Type 0 where
  pub test : is_script p k ≡ false
  pub over : is_done u ≡ true
  pub kept_over : is_done kept ≡ true
  pub line : line_kept u ≡ []
  pub kept_line : line_kept kept ≡ []
  pub latest : latest_kept kept ≤ latest_kept u

-- what may be kept in the place of the unit of this number
abbrev pub MayForget : Settings → ℕ → Option UnitView → Option UnitView → Type 0
MayForget p k u kept = (kept ≡ u) ⊎ AreOver p k u kept

-- what may be kept in the place of some units
pub record AreForgotten (p : Settings) (us kept : List (Option UnitView)) : Type 0 where
  pub whole : length kept ≡ length us
  pub each : (k : ℕ) → MayForget p k (slice_index_or us k None) (slice_index_or kept k None)

-- and in the place of a board
pub record IsForgotten (p : Settings) (b kept : Board) : Type 0 where
  pub rest : kept ≡ record b { units = kept.units }
  pub units : AreForgotten p b.units kept.units

-- and after a journal
abbrev pub IsKeptAfter : Settings → List Entry → Board → Type 0
IsKeptAfter p journal kept = IsForgotten p (board p (past_of p journal)) kept
