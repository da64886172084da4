-- The status of a run that is shown.
use Rattle.std.specs.Prelude.{ℕ, Result, Ok, Err}
use Rattle.run_cli.specs.Text.{outcome_status}
use Rattle.run_output.specs.Faults.{fault_status}
use Rattle.run_output.specs.declared.fault.Fault.{Fault}
use Rattle.run_show.specs.declared.last.Told.{Told}
use Rattle.run_show.specs.declared.last.Told.TheVariants as told

-- that of its outcome, or which its fault tells; or that of what is wrong with its lines
abbrev pub shown_status : Result Told Fault → ℕ
shown_status (Ok (told.Outcome outcome)) = outcome_status outcome
shown_status (Ok (told.Fault status)) = status
shown_status (Err fault) = fault_status fault
