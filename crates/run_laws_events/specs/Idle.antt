-- No limit keeps out what would run alone.
use Rattle.std.specs.Prelude.{ℕ, ◌≡◌, ◌<◌, List, true, Some, None}
use Rattle.run_events.specs.declared.settings.Settings.{Settings}
use Rattle.run_events.specs.declared.turn.Turn.TheVariants.{Admit}
use Rattle.run_model.specs.declared.entry.Entry.{Entry}
use Rattle.run_model.specs.declared.happening.Happening.{Happening}
use Rattle.run_model.specs.declared.phase.Phase.TheVariants.{Over}
use Rattle.run_model.specs.declared.unit_view.UnitView.{UnitView}
use Rattle.run_model.specs.Admission.{units_in}
use Rattle.run_model.specs.Journal.{IsLegal, past_of}
use Rattle.run_model.specs.Turns.{enabled}
use Rattle.run_model.specs.Words.{is_on, sub_run, unit_of}

-- each script and test that was admitted is over
abbrev pub IsIdle : List Happening → Type 0
IsIdle run = (k : ℕ) (u : UnitView) → unit_of k run ≡ Some u → u.phase ≡ Over

-- after a legal journal of which a sub-run is on and idle, where a script or test of the plan wasn't admitted, the
-- next can be, however great its weight and small the limits
abbrev pub IdleRunsAdmit : Type 0
IdleRunsAdmit = (p : Settings) (journal : List Entry) (k : ℕ) → IsLegal p journal
    → is_on (sub_run (past_of p journal)) ≡ true → IsIdle (sub_run (past_of p journal))
    → k < units_in p → unit_of k (sub_run (past_of p journal)) ≡ None
    → enabled p (past_of p journal) Admit ≡ true
