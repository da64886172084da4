-- What the words and the source give to `live`.
use Rattle.std.specs.Prelude.{ℕ, ◌≡◌, ◌≤◌, List, [], ◌∷◌, length, codes, ⊤}
use Rattle.run_capture.specs.Bytes.{AtEnd}
use Rattle.run_input.specs.Lines.{lines_of}
use Rattle.run_input.specs.Input.{IsFirstBadAlone}
use Rattle.run_output.specs.declared.fault.Fault.{Fault}
use Rattle.run_output.specs.declared.fault.Fault.TheVariants.{Line, Read, Memory, TooLong}
use Rattle.run_cli.specs.Call.{Reading, HasGiven}
use Rattle.run_cli.specs.Given.{IsTooLong, IsWithin, input_limit}

-- the words are the one that names the command
abbrev pub IsLiveWord : List (List ℕ) → Type 0
IsLiveWord words = words ≡ codes "live" ∷ []

-- the source was read to its end, and the line of this number is the first that isn't as it is to be: the first where
-- it is no plan line, else the second
abbrev pub HasBadPlanLine : Reading → ℕ → Type 0
HasBadPlanLine r number =
    (bytes : List ℕ) × HasGiven r bytes × AtEnd r.left_after × (length bytes ≤ input_limit)
    × IsFirstBadAlone (lines_of bytes) number

-- what each fault before the run says of the source
abbrev pub IsLineFault : Reading → Fault → Type 0
IsLineFault r (Line number) = HasBadPlanLine r number
IsLineFault r Read = IsWithin r
IsLineFault r TooLong = IsTooLong r
IsLineFault r Memory = ⊤
IsLineFault r _ = ⊥
