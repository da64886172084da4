-- What the words and the source give.
use Rattle.std.specs.Prelude.{ℕ, ◌≡◌, ◌≤◌, ◌<◌, List, length, Result, Ok, Err, ⊤}
use Rattle.run_capture.specs.Bytes.{AtEnd}
use Rattle.run_input.specs.declared.plan_line.RunnerKeys.{RunnerKeys}
use Rattle.run_events.specs.declared.plan.Plan.{Plan}
use Rattle.run_events.specs.declared.turn.Turn.{Turn}
use Rattle.run_input.specs.Lines.{lines_of}
use Rattle.run_input.specs.Input.{IsInput, IsFirstBad}
use Rattle.run_output.specs.declared.fault.Fault.{Fault}
use Rattle.run_output.specs.declared.fault.Fault.TheVariants.{Words, Line, Read, Memory, TooLong}
use Rattle.run_cli.specs.Call.{Reading, HasGiven, HasReadFault}
use Rattle.run_cli.specs.Commands.{NamesCommand}

-- the most bytes that an input may have
abbrev pub input_limit : ℕ
input_limit = 16777216

-- the source was read to its end, and these are its bytes
pub record IsAllOf (r : Reading) (bytes : List ℕ) : Type 0 where
  pub given : HasGiven r bytes
  pub end : AtEnd r.left_after
  pub within : length bytes ≤ input_limit

-- the source was read to its end, and its lines say a plan and its turns
pub record SaysInput (r : Reading) (keys : RunnerKeys) (plan : Plan) (turns : List Turn) : Type 0 where
  pub bytes : List ℕ
  pub given : HasGiven r bytes
  pub end : AtEnd r.left_after
  pub within : length bytes ≤ input_limit
  pub says : IsInput (lines_of bytes) keys plan turns

-- the source gave more than an input may have; it gave no more
abbrev pub IsTooLong : Reading → Type 0
IsTooLong r = (bytes : List ℕ) × HasGiven r bytes × (input_limit < length bytes)

abbrev pub IsWithin : Reading → Type 0
IsWithin r = (bytes : List ℕ) × HasGiven r bytes × (length bytes ≤ input_limit)

-- the source was read to its end, and the line of this number is the first bad one
abbrev pub HasBadLine : Reading → ℕ → Type 0
HasBadLine r number =
    (bytes : List ℕ) × HasGiven r bytes × AtEnd r.left_after × (length bytes ≤ input_limit)
    × IsFirstBad (lines_of bytes) number

-- why a source was not read to its end
abbrev pub IsUnread : Reading → Fault → Type 0
IsUnread r Read = IsWithin r
IsUnread r TooLong = IsTooLong r
IsUnread r Memory = ⊤
IsUnread r _ = ⊥

-- what each fault before the run says of the words and the source
abbrev pub IsGivenFault : List (List ℕ) → Reading → Fault → Type 0
IsGivenFault words r Words = ¬ NamesCommand words
IsGivenFault words r Read = NamesCommand words × IsWithin r
IsGivenFault words r TooLong = NamesCommand words × IsTooLong r
IsGivenFault words r (Line number) = NamesCommand words × HasBadLine r number
IsGivenFault words r Memory = NamesCommand words
IsGivenFault words r _ = ⊥

-- the source's count of faults rose exactly where reading failed
abbrev pub CountsRead : {T : Type 0} → Reading → Result T Fault → Type 0
CountsRead r (Err Read) = (r.faults ≤ r.faults_after) × HasReadFault r
CountsRead r (Err _) = r.faults_after ≡ r.faults
CountsRead r (Ok _) = r.faults_after ≡ r.faults

-- at the end of the program the source's count of faults rose exactly where the answer is that reading failed; where
-- memory was wanting it may have risen
abbrev pub CountsReadAtEnd : {T : Type 0} → Reading → Result T Fault → Type 0
CountsReadAtEnd r (Ok _) = r.faults_after ≡ r.faults
CountsReadAtEnd r (Err Read) = HasReadFault r
CountsReadAtEnd r (Err Memory) = r.faults ≤ r.faults_after
CountsReadAtEnd r (Err _) = r.faults_after ≡ r.faults
