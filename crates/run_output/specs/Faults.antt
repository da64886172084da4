-- The line of a fault that ends the program, and the status that it ends with.
use Rattle.std.specs.Prelude.{ℕ, List, [], ◌∷◌, Option, Some, option_map, codes}
use Rattle.serde_json.specs.Data.{Data, string}
use Rattle.run_output.specs.declared.fault.Fault.{Fault}
use Rattle.run_output.specs.declared.fault.Fault.TheVariants.{Words, Line, Plan, NotEnabled, ThirdSignal, Unfinished}
use Rattle.run_output.specs.declared.fault.Fault.TheVariants.{Report, Read, Memory, TooLong}
use Rattle.run_output.specs.declared.fault.PlanFault.{PlanFault}
use Rattle.run_output.specs.declared.fault.PlanFault.TheVariants.{ZeroLimit, DuplicateTest, UnknownGroup, ZeroWeight}
use Rattle.run_output.specs.declared.fault.PlanFault.TheVariants.{TooManyRetries}
use Rattle.run_output.specs.Fields.{count, object_text}

-- a fault by its word
unfoldable pub fault_word : Fault → List ℕ
fault_word Words = codes "words"
fault_word (Line line) = codes "line"
fault_word (Plan plan) = codes "plan"
fault_word (NotEnabled turn) = codes "not-enabled"
fault_word (ThirdSignal turn) = codes "third-signal"
fault_word Unfinished = codes "unfinished"
fault_word Report = codes "report"
fault_word Read = codes "read"
fault_word Memory = codes "memory"
fault_word TooLong = codes "too-long"

-- the exit status of each fault
abbrev pub fault_status : Fault → ℕ
fault_status Words = 2
fault_status (Line line) = 3
fault_status (Plan plan) = 5
fault_status (NotEnabled turn) = 6
fault_status (ThirdSignal turn) = 7
fault_status Unfinished = 8
fault_status Report = 9
fault_status Read = 10
fault_status Memory = 11
fault_status TooLong = 12

-- the kind of a plan's fault, and the place in the plan that is at fault
unfoldable pub plan_fields : PlanFault → List (List ℕ × Option Data)
plan_fields (ZeroLimit group) =
    (codes "group", option_map count group) ∷ (codes "kind", Some (string (codes "zero-limit"))) ∷ []
plan_fields (DuplicateTest test) =
    (codes "kind", Some (string (codes "duplicate-test"))) ∷ (codes "test", Some (count test)) ∷ []
plan_fields (UnknownGroup test) =
    (codes "kind", Some (string (codes "unknown-group"))) ∷ (codes "test", Some (count test)) ∷ []
plan_fields (ZeroWeight test) =
    (codes "kind", Some (string (codes "zero-weight"))) ∷ (codes "test", Some (count test)) ∷ []
plan_fields (TooManyRetries test) =
    (codes "kind", Some (string (codes "too-many-retries"))) ∷ (codes "test", Some (count test)) ∷ []

-- where a fault is: the line of input, the place in the plan, or the turn
abbrev pub place_fields : Fault → List (List ℕ × Option Data)
place_fields Words = []
place_fields (Line line) = (codes "line", Some (count line)) ∷ []
place_fields (Plan plan) = plan_fields plan
place_fields (NotEnabled turn) = (codes "turn", Some (count turn)) ∷ []
place_fields (ThirdSignal turn) = (codes "turn", Some (count turn)) ∷ []
place_fields Unfinished = []
place_fields Report = []
place_fields Read = []
place_fields Memory = []
place_fields TooLong = []

-- the fields of a fault
unfoldable pub fault_fields : Fault → List (List ℕ × Option Data)
fault_fields fault =
    (codes "fault", Some (string (fault_word fault)))
    ∷ (codes "status", Some (count (fault_status fault)))
    ∷ place_fields fault

-- its line
abbrev pub fault_text : Fault → List ℕ
fault_text fault = object_text (fault_fields fault)
