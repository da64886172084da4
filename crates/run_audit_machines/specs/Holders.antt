-- Which items of a list have a key, and the slots of tests as keys.
use Rattle.std.specs.Prelude.{ℕ, zero, suc, List, [], ◌∷◌, Option, Some, None, option_map, nat_eq}
use Rattle.std.specs.Prelude.{Bool, true, false, ◌&&◌, not, if◌then◌else◌}
use Rattle.std.specs.List.{list_all}
use Rattle.std.specs.Option.{option_map_or}
use lib.Pointwise.{pointwise}
use Rattle.run_events.specs.declared.plan.Group.{Group}
use Rattle.run_events.specs.declared.plan.TestSlotAssignment.{TestSlotAssignment}
use Rattle.run_laws_events.specs.PlanLimits.{group_of_plan}
use Rattle.run_audit_machines.specs.Limits.{Seated, is_same_number, is_seated}

-- an item has this key
abbrev pub is_key : {S K : Type 0} → (K → K → Bool) → (S → Option K) → Option K → S → Bool
is_key same key None s = false
is_key same key (Some k) s = option_map_or (same k) (key s) false

-- no item but that at a place has this key
abbrev pub is_slot_free : {S K : Type 0} → (K → K → Bool) → (S → Option K) → Option K → ℕ → List S → Bool
is_slot_free same key o place [] = true
is_slot_free same key o zero (s ∷ items) = list_all (λ x. not (is_key same key o x)) items
is_slot_free same key o (suc place) (s ∷ items) = not (is_key same key o s) && is_slot_free same key o place items

-- the slot of a test that runs, among all tests; and in its group, by the group's name
abbrev pub slot_told : Seated → Option ℕ
slot_told s = if is_seated s then option_map (λ t. t.global) s.1.slots else None

abbrev pub group_slot_told : Option (List ℕ) → Option TestSlotAssignment → Option (List ℕ × Option ℕ)
group_slot_told (Some name) (Some slots) = Some (name, option_map (λ g. g.slot) slots.group)
group_slot_told _ _ = None

abbrev pub own_group_slot : List Group → Seated → Option (List ℕ × Option ℕ)
own_group_slot groups s = if is_seated s then group_slot_told (group_of_plan groups s.0.group) s.1.slots else None

abbrev pub same_slot : List ℕ × Option ℕ → List ℕ × Option ℕ → Bool
same_slot a b = pointwise nat_eq a.0 b.0 && is_same_number a.1 b.1
