-- Why an input is refused.
use Rattle.std.specs.Prelude.{ℕ, List, ⊤}
use Rattle.run_input.specs.declared.errors.LineError.{LineError}
use Rattle.run_input.specs.declared.errors.LineError.TheVariants as line
use Rattle.run_input.specs.declared.errors.InputError.{InputError}
use Rattle.run_input.specs.declared.errors.InputError.TheVariants as input
use Rattle.run_input.specs.Input.{IsFirstBad, IsFirstBadTurn, IsFirstBadAlone}

-- the error of the line with this number
abbrev pub error_at : ℕ → LineError → InputError
error_at number line.NotInTable = input.Line number
error_at number line.OutOfMemory = input.OutOfMemory

-- lines after the first are refused for the first of them that is no turn line, or for want of memory
abbrev pub IsRefusedTurns : List (List ℕ) → InputError → Type 0
IsRefusedTurns others (input.Line number) = IsFirstBadTurn others number
IsRefusedTurns others input.OutOfMemory = ⊤

-- an input is refused for the first line that is not in its table, or for want of memory
abbrev pub IsRefusedInput : List (List ℕ) → InputError → Type 0
IsRefusedInput lines (input.Line number) = IsFirstBad lines number
IsRefusedInput lines input.OutOfMemory = ⊤

-- a plan line that is to stand alone is refused where it is none, for a second line, or for want of memory
abbrev pub IsRefusedAlone : List (List ℕ) → InputError → Type 0
IsRefusedAlone lines (input.Line number) = IsFirstBadAlone lines number
IsRefusedAlone lines input.OutOfMemory = ⊤
