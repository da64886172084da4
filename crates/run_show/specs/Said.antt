-- What lines of a run say that tell no event.
use Rattle.std.specs.Prelude.{ℕ, ◌≡◌, ◌==◌, List, Bool, true, Option, Some, option_and_then, codes}
use Rattle.std.specs.List.{starts_with}
use Rattle.serde_json.specs.Find.{get}
use Rattle.run_input.specs.Fields.{u64_of}
use Rattle.run_input.specs.ValueOf.{json_value}
use Rattle.run_output.specs.Outcomes.{outcome_text}
use Rattle.run_show.specs.declared.last.Told.{Told}
use Rattle.run_show.specs.declared.last.Told.TheVariants.{Outcome, Fault}

-- a line of an ask, and one of a fault, by its front
abbrev pub is_ask_line : List ℕ → Bool
is_ask_line line = starts_with (λ a b. a == b) line (codes "{\"ask\":")

abbrev pub is_fault_line : List ℕ → Bool
is_fault_line line = starts_with (λ a b. a == b) line (codes "{\"fault\":")

-- the status that a line tells
abbrev pub status_in : List ℕ → Option ℕ
status_in line = option_and_then (λ value. option_and_then u64_of (get (codes "status") value)) (json_value line)

-- a line is the last of a run that ended so
abbrev pub IsLastLine : List ℕ → Told → Type 0
IsLastLine line (Outcome outcome) = outcome_text outcome ≡ line
IsLastLine line (Fault status) = (is_fault_line line ≡ true) × (status_in line ≡ Some status)
