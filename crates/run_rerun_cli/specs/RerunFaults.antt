-- The faults of a store of a chain: their lines, and their statuses.
use Rattle.std.specs.Prelude.{ℕ, List, [], ◌∷◌, Option, Some, Bool, true, false, codes}
use Rattle.serde_json.specs.Data.{Data, string}
use Rattle.run_output.specs.Faults.{plan_fields}
use Rattle.run_output.specs.Fields.{count, object_text}
use Rattle.run_rerun_cli.specs.declared.faults.RerunFault.{RerunFault}
use Rattle.run_rerun_cli.specs.declared.faults.RerunFault.TheVariants.{Read, TooLong, Bad, Torn, Plan, NotEnabled}
use Rattle.run_rerun_cli.specs.declared.faults.RerunFault.TheVariants.{ThirdSignal}

-- whether a store could not be read
abbrev pub is_reading_fault : RerunFault → Bool
is_reading_fault Read = true
is_reading_fault _ = false

-- the exit status of each fault
abbrev pub rerun_fault_status : RerunFault → ℕ
rerun_fault_status Read = 10
rerun_fault_status TooLong = 12
rerun_fault_status Torn = 14
rerun_fault_status (Bad record_place) = 15
rerun_fault_status (Plan fault) = 5
rerun_fault_status (NotEnabled turn) = 6
rerun_fault_status (ThirdSignal turn) = 7

-- a fault by its word
abbrev pub rerun_fault_word : RerunFault → List ℕ
rerun_fault_word Read = codes "read"
rerun_fault_word TooLong = codes "too-long"
rerun_fault_word Torn = codes "torn"
rerun_fault_word (Bad record_place) = codes "bad"
rerun_fault_word (Plan fault) = codes "plan"
rerun_fault_word (NotEnabled turn) = codes "not-enabled"
rerun_fault_word (ThirdSignal turn) = codes "third-signal"

-- where in the store it is: the record, the place in the plan, or the turn
abbrev pub rerun_place : RerunFault → List (List ℕ × Option Data)
rerun_place Read = []
rerun_place TooLong = []
rerun_place Torn = []
rerun_place (Bad record_place) = (codes "record", Some (count record_place)) ∷ []
rerun_place (Plan fault) = plan_fields fault
rerun_place (NotEnabled turn) = (codes "turn", Some (count turn)) ∷ []
rerun_place (ThirdSignal turn) = (codes "turn", Some (count turn)) ∷ []

-- the line of a fault of the store at this place of the chain, from 0
abbrev pub rerun_fault_text : ℕ → RerunFault → List ℕ
rerun_fault_text store fault =
    object_text ((codes "fault", Some (string (rerun_fault_word fault)))
    ∷ (codes "status", Some (count (rerun_fault_status fault))) ∷ (codes "store", Some (count store))
    ∷ rerun_place fault)
