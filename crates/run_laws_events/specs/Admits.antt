-- When a script or a test can be admitted: where it comes next, and a test also has room.
use Rattle.std.specs.Prelude.{ℕ, ◌≡◌, ◌⊎◌, ◌↔◌, ◌+◌, ◌<◌, ◌≤◌, min, List, true, sum_by, if◌then◌else◌, None, Some}
use Rattle.std.specs.Prelude.{is_some}
use Rattle.std.specs.Option.{option_map_or}
use Rattle.std.specs.List.{range_with_len}
use Rattle.run_events.specs.declared.plan.PlanTest.{PlanTest}
use Rattle.run_events.specs.declared.settings.Settings.{Settings}
use Rattle.run_events.specs.declared.turn.Turn.TheVariants.{Admit}
use Rattle.run_model.specs.declared.entry.Entry.{Entry}
use Rattle.run_model.specs.declared.happening.Happening.{Happening}
use Rattle.run_model.specs.declared.phase.Phase.TheVariants.{Over}
use Rattle.run_model.specs.declared.unit_view.UnitView.{UnitView}
use Rattle.run_model.specs.Admission.{scripts_in, tests_in}
use Rattle.run_model.specs.Journal.{IsLegal, past_of}
use Rattle.run_model.specs.Turns.{enabled}
use Rattle.run_model.specs.Words.{is_on, sub_run, unit_of}
use Rattle.run_laws_events.specs.Names.{test_of_unit}
use Rattle.run_laws_events.specs.Order.{ComesFirst}
use Rattle.run_laws_events.specs.Slots.{slots_held}

-- unit k was admitted in a sub-run, and is over after it
pub record IsOverAfter (run : List Happening) (k : ℕ) : Type 0 where
  pub unit : UnitView
  pub admitted : unit_of k run ≡ Some unit
  pub over : unit.phase ≡ Over

-- a script comes next after a sub-run: it wasn't admitted, and each script before it is over
pub record ScriptComesNext (p : Settings) (run : List Happening) : Type 0 where
  pub number : ℕ
  pub script : number < scripts_in p
  pub waits : unit_of number run ≡ None
  pub earlier : (k : ℕ) → k < number → IsOverAfter run k

-- what a test takes of the limit on all tests while it runs: its weight, cut to the number of threads
abbrev pub weight_of_threads : Settings → PlanTest → ℕ
weight_of_threads p test = min test.weight p.threads

-- what unit k takes of it after a sub-run: nothing, but where it is a test that holds slots
abbrev pub threads_held : Settings → List Happening → ℕ → ℕ
threads_held p run k =
    if is_some (slots_held (unit_of k run)) then option_map_or (weight_of_threads p) (test_of_unit p k) 0 else 0

-- what all tests take of it
abbrev pub threads_taken : Settings → List Happening → ℕ
threads_taken p run = sum_by (threads_held p run) (range_with_len (scripts_in p) (tests_in p))

-- a test comes next after a sub-run, and has room: each script is over, and the test that comes first is to be skipped,
-- or fits beside the tests that hold slots
pub record TestHasRoom (p : Settings) (run : List Happening) : Type 0 where
  pub scripts : (k : ℕ) → k < scripts_in p → IsOverAfter run k
  pub number : ℕ
  pub test : PlanTest
  pub planned : test_of_unit p number ≡ Some test
  pub first : ComesFirst p run number test
  pub room : test.skip ≡ None → threads_taken p run + weight_of_threads p test ≤ p.threads

-- after a legal journal a script or test can be admitted exactly where its sub-run is on, and one comes next
abbrev pub AdmitsWhatHasRoom : Type 0
AdmitsWhatHasRoom = (p : Settings) (journal : List Entry) → IsLegal p journal
    → (enabled p (past_of p journal) Admit ≡ true)
    ↔ ((is_on (sub_run (past_of p journal)) ≡ true)
    × (ScriptComesNext p (sub_run (past_of p journal)) ⊎ TestHasRoom p (sub_run (past_of p journal))))
