-- The lines of faults of stores that are played.
use Rattle.std.specs.Prelude.{ℕ, List, [], ◌∷◌, Some, codes}
use Rattle.serde_json.specs.Data.{string}
use Rattle.run_output.specs.Fields.{count, object_text}
use Rattle.run_store_io.specs.declared.fault_lines.StoreFault.{StoreFault}
use Rattle.run_store_io.specs.declared.fault_lines.StoreFault.TheVariants.{Torn, Bad}

-- the line of a fault, without its line feed
abbrev pub store_fault_text : StoreFault → List ℕ
store_fault_text (Torn turns) =
    object_text ((codes "fault", Some (string (codes "torn"))) ∷ (codes "status", Some (count 14))
    ∷ (codes "turns", Some (count turns)) ∷ [])
store_fault_text (Bad place) =
    object_text ((codes "fault", Some (string (codes "bad"))) ∷ (codes "record", Some (count place))
    ∷ (codes "status", Some (count 15)) ∷ [])

-- the exit status of a fault
abbrev pub store_fault_status : StoreFault → ℕ
store_fault_status (Torn turns) = 14
store_fault_status (Bad place) = 15
