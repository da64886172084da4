-- Slots as objects.
use Rattle.std.specs.Prelude.{ℕ, List, [], ◌∷◌, Option, Some, option_map, codes}
use Rattle.serde_json.specs.Data.{Data, string}
use Rattle.run_events.specs.declared.plan.TestSlotAssignment.{TestSlotAssignment}
use Rattle.run_output.specs.Fields.{count, object_of}

-- the number of a slot, and in a group the number there and the group's name
unfoldable pub slot_fields : TestSlotAssignment → List (List ℕ × Option Data)
slot_fields slot =
    (codes "global", Some (count slot.global))
    ∷ (codes "group", option_map (λ g. count g.slot) slot.group)
    ∷ (codes "name", option_map (λ g. string g.name) slot.group)
    ∷ []

-- the object
abbrev pub slot_data : TestSlotAssignment → Data
slot_data slot = object_of (slot_fields slot)
