-- The order in which tests are admitted: by priority, then by the plan, but for those whose group has no room.
use Rattle.std.specs.Prelude.{ℕ, ◌≡◌, ◌⊎◌, ◌+◌, ◌<◌, ◌<ℤ◌, min, nat_eq, List, [], ◌∷◌, ◌++◌, Bool, false, sum_by}
use Rattle.std.specs.Prelude.{if◌then◌else◌, Option, Some, None, is_some, option_and_then}
use Rattle.std.specs.Option.{option_map_or}
use Rattle.std.specs.List.{find, range_with_len}
use lib.Pointwise.{pointwise}
use Rattle.run_events.specs.declared.plan.Group.{Group}
use Rattle.run_events.specs.declared.plan.PlanTest.{PlanTest}
use Rattle.run_events.specs.declared.settings.Settings.{Settings}
use Rattle.run_model.specs.declared.entry.Entry.{Entry}
use Rattle.run_model.specs.declared.happening.Happening.{Happening}
use Rattle.run_model.specs.declared.happening.UnitPart.TheVariants.{Joins}
use Rattle.run_model.specs.declared.unit_view.UnitView.{UnitView}
use Rattle.run_model.specs.Admission.{scripts_in, tests_in}
use Rattle.run_model.specs.Environment.{number}
use Rattle.run_model.specs.Journal.{IsLegal, past_of}
use Rattle.run_model.specs.Turns.{happening}
use Rattle.run_model.specs.Words.{sub_run, unit_of}
use Rattle.run_laws_events.specs.Names.{test_of_unit}
use Rattle.run_laws_events.specs.PlanLimits.{group_named}
use Rattle.run_laws_events.specs.Slots.{slots_held}

-- the group of the plan that a test names
abbrev pub named_group : List Group → PlanTest → Option Group
named_group groups test = option_and_then (λ name. group_named name groups) test.group

-- whether a test names this group
abbrev pub names_group : Group → PlanTest → Bool
names_group group test = option_map_or (λ name. pointwise nat_eq group.name name) test.group false

-- what a test takes of the limit of a group while it runs: its weight, cut to the limit, where it names the group
abbrev pub weight_in : Group → PlanTest → ℕ
weight_in group test = if names_group group test then min test.weight group.limit else 0

-- what unit k takes of it after a sub-run: nothing, but where it is a test that holds slots
abbrev pub weight_held : Settings → List Happening → Group → ℕ → ℕ
weight_held p run group k =
    if is_some (slots_held (unit_of k run)) then option_map_or (weight_in group) (test_of_unit p k) 0 else 0

-- what all tests take of it
abbrev pub group_weight : Settings → List Happening → Group → ℕ
group_weight p run group = sum_by (weight_held p run group) (range_with_len (scripts_in p) (tests_in p))

-- a test is held back after a sub-run: it isn't skipped, and its group has no room for it
pub record IsHeldBack (p : Settings) (run : List Happening) (test : PlanTest) : Type 0 where
  pub matched : test.skip ≡ None
  pub group : Group
  pub named : named_group p.plan.groups test ≡ Some group
  pub full : group.limit < group_weight p run group + min test.weight group.limit

-- a test stands before another one, each as the unit of a number: its priority is greater, or the same, and it comes
-- first in the plan
abbrev pub StandsBefore : ℕ → PlanTest → ℕ → PlanTest → Type 0
StandsBefore k test j other = (other.priority <ℤ test.priority) ⊎ ((test.priority ≡ other.priority) × (k < j))

-- a test comes first after a sub-run: it wasn't admitted and isn't held back, and each test that stands before it and
-- wasn't admitted is
pub record ComesFirst (p : Settings) (run : List Happening) (j : ℕ) (test : PlanTest) : Type 0 where
  pub waits : unit_of j run ≡ None
  pub free : IsHeldBack p run test → ⊥
  pub others : (k : ℕ) (other : PlanTest) → test_of_unit p k ≡ Some other → unit_of k run ≡ None
      → StandsBefore k other j test → IsHeldBack p run other

-- that holds of each turn of a legal journal that admits a test, by the newest sub-run before it
abbrev pub TestsComeInOrder : Type 0
TestsComeInOrder = (p : Settings) (journal : List Entry) (e : Entry) → IsLegal p (journal ++ e ∷ [])
    → (first : UnitView) → (happening p (past_of p journal) e).part ≡ Some (Joins first)
    → (test : PlanTest) → test_of_unit p (number first) ≡ Some test
    → ComesFirst p (sub_run (past_of p journal)) (number first) test
