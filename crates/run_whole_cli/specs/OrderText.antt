-- The line that says what wasn't handed on exactly once.
use Rattle.std.specs.Prelude.{ℕ, List, [], ◌∷◌, Some, codes}
use Rattle.serde_json.specs.Data.{string}
use Rattle.run_output.specs.Fields.{count, object_text}
use Rattle.run_output.specs.Faults.{fault_text}
use Rattle.run_output.specs.declared.fault.Fault.TheVariants.{Memory}
use Rattle.run_shared.specs.declared.order_check.OrderFault.{OrderFault}
use Rattle.run_shared.specs.declared.order_check.OrderFault.TheVariants.{Unasked, Repeated, Lost, OutOfMemory}

-- the line of a place of this kind
abbrev pub kind_text : List ℕ → ℕ → List ℕ
kind_text kind place =
    object_text ((codes "fault", Some (string (codes "order"))) ∷ (codes "kind", Some (string kind))
    ∷ (codes "place", Some (count place)) ∷ (codes "status", Some (count 13)) ∷ [])

-- the line of what is wrong, without its line feed: something was handed on that wasn't asked at its place, or that
-- place came twice, or something asked wasn't handed on
abbrev pub order_text : OrderFault → List ℕ
order_text (Unasked place) = kind_text (codes "unasked") place
order_text (Repeated place) = kind_text (codes "repeated") place
order_text (Lost place) = kind_text (codes "lost") place
order_text OutOfMemory = fault_text Memory
