-- The slots of tests by the rule: each is the least number that no test in use holds.
use Rattle.std.specs.Prelude.{⊤, ℕ, ◌≡◌, ◌<◌, ◌==◌, List, [], ◌∷◌, ◌++◌, if◌then◌else◌, Option, Some, None, option_map}
use Rattle.std.specs.Prelude.{option_and_then, nat_eq, IfSome}
use Rattle.std.specs.Option.{option_or}
use Rattle.std.specs.List.{All, list_any}
use lib.Pointwise.{pointwise}
use Rattle.run_events.specs.declared.plan.Group.{Group}
use Rattle.run_events.specs.declared.plan.GroupSlot.{GroupSlot}
use Rattle.run_events.specs.declared.plan.PlanTest.{PlanTest}
use Rattle.run_events.specs.declared.plan.TestSlotAssignment.{TestSlotAssignment}
use Rattle.run_events.specs.declared.message.Message.{Message}
use Rattle.run_events.specs.declared.message.Message.TheVariants.{Start}
use Rattle.run_events.specs.declared.settings.Settings.{Settings}
use Rattle.run_model.specs.declared.entry.Entry.{Entry}
use Rattle.run_model.specs.declared.happening.Happening.{Happening}
use Rattle.run_model.specs.declared.happening.UnitPart.{UnitPart}
use Rattle.run_model.specs.declared.happening.UnitPart.TheVariants.{Joins}
use Rattle.run_model.specs.declared.unit_view.UnitRole.{UnitRole}
use Rattle.run_model.specs.declared.unit_view.UnitRole.TheVariants as roles
use Rattle.run_model.specs.declared.unit_view.UnitView.{UnitView}
use Rattle.run_model.specs.Admission.{is_last}
use Rattle.run_model.specs.Environment.{number}
use Rattle.run_model.specs.Journal.{IsLegal, past_of}
use Rattle.run_model.specs.Turns.{happening}
use Rattle.run_model.specs.Words.{sub_run, told, unit_of}
use Rattle.run_laws.specs.Starts.{start_told}
use Rattle.run_laws_events.specs.Names.{test_of_unit}

-- the slots of a unit, by what it is: a script has none
abbrev pub slots_in_role : UnitRole → Option TestSlotAssignment
slots_in_role (roles.Test t) = Some t.slot
slots_in_role (roles.Script s) = None

-- the slots with which a turn lets unit k join, if it does, and those with which it joined
abbrev pub slots_joining : ℕ → Option UnitPart → Option TestSlotAssignment
slots_joining k (Some (Joins first)) = if number first == k then slots_in_role first.role else None
slots_joining k _ = None

abbrev pub slots_joined : ℕ → List Happening → Option TestSlotAssignment
slots_joined k [] = None
slots_joined k (x ∷ run) = option_or (slots_joined k run) (slots_joining k x.part)

-- a start of a test that is told has the slots with which that joined
abbrev pub IsInSlots : List Happening → Message → Type 0
IsInSlots run (Start start) = slots_joined start.test.unit run ≡ Some start.slot
IsInSlots run _ = ⊤

-- that holds of each event told in the newest sub-run after every legal journal
abbrev pub StartsInSlots : Type 0
StartsInSlots = (p : Settings) (journal : List Entry) → IsLegal p journal
    → All (λ e. IfSome (start_told e) (IsInSlots (sub_run (past_of p journal)))) (told (sub_run (past_of p journal)))

-- the slots that a unit holds: those of a test that was admitted and isn't over
abbrev pub slots_held : Option UnitView → Option TestSlotAssignment
slots_held None = None
slots_held (Some u) = if is_last u.phase then None else slots_in_role u.role

-- unit k holds number n among all tests, or in the group of a name
abbrev pub HoldsNumber : List Happening → ℕ → ℕ → Type 0
HoldsNumber run k n = option_map (λ slots. slots.global) (slots_held (unit_of k run)) ≡ Some n

abbrev pub HoldsInGroup : List Happening → List ℕ → ℕ → ℕ → Type 0
HoldsInGroup run name k n =
    option_and_then (λ slots. slots.group) (slots_held (unit_of k run)) ≡ Some (record { slot = n; name = name })

-- a number is the least that is free: no unit holds it, and one holds each smaller number
pub record IsLeastFree (Holds : ℕ → ℕ → Type 0) (n : ℕ) : Type 0 where
  pub free : (k : ℕ) → Holds k n → ⊥
  pub below : (m : ℕ) → m < n → (k : ℕ) × Holds k m

-- the name of a test's group, where the plan has a group of that name
abbrev pub planned_group : List Group → Option (List ℕ) → Option (List ℕ)
planned_group groups None = None
planned_group groups (Some name) = if list_any (λ g. pointwise nat_eq g.name name) groups then Some name else None

-- its slot in that group is the least free number there, beside the group's name; it has none in no group
abbrev pub IsGroupSlot : List Happening → Option (List ℕ) → Option GroupSlot → Type 0
IsGroupSlot run None slot = slot ≡ None
IsGroupSlot run (Some name) slot =
    (n : ℕ) × ((slot ≡ Some (record { slot = n; name = name })) × IsLeastFree (HoldsInGroup run name) n)

-- the slots of a test that is admitted after a sub-run: the least free number, and the least free one in its group
pub record AreLeastFree (p : Settings) (run : List Happening) (test : PlanTest)
    (slots : TestSlotAssignment) : Type 0 where
  pub all : IsLeastFree (HoldsNumber run) slots.global
  pub group : IsGroupSlot run (planned_group p.plan.groups test.group) slots.group

-- a test that joins is that of the plan of its number, and joins in such slots, where it isn't skipped
abbrev pub JoinsInSlots : Settings → List Happening → UnitView → Type 0
JoinsInSlots p run first = IfSome (slots_in_role first.role) (λ slots.
    (test : PlanTest) × ((test_of_unit p (number first) ≡ Some test)
    × (test.skip ≡ None → AreLeastFree p run test slots)))

-- that holds of each turn of a legal journal that admits a unit, by the newest sub-run before it
abbrev pub SlotsAreLeast : Type 0
SlotsAreLeast = (p : Settings) (journal : List Entry) (e : Entry) → IsLegal p (journal ++ e ∷ [])
    → (first : UnitView) → (happening p (past_of p journal) e).part ≡ Some (Joins first)
    → JoinsInSlots p (sub_run (past_of p journal)) first
