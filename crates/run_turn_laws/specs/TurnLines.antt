-- Turns whose parts fit their types, and that their lines are read back.
use Rattle.std.specs.Prelude.{ℕ, ◌≡◌, ◌<◌, ◌^◌, ⊤, Some, IsUtf8, FitsSigned}
use Rattle.std.specs.Int.{w32}
use Rattle.std.specs.Char.{IsScalar}
use Rattle.hex.specs.Hex.{IsBytes}
use Rattle.run_commands.specs.declared.script_helpers.EnvInput.{EnvInput}
use Rattle.run_commands.specs.declared.script_helpers.EnvInput.TheVariants.{Bytes, OpenFailed, ReadFailed}
use Rattle.run_events.specs.declared.input.KeyCode.{KeyCode}
use Rattle.run_events.specs.declared.input.KeyCode.TheVariants.{Enter, Char}
use Rattle.run_events.specs.declared.result.ChildExit.{ChildExit}
use Rattle.run_events.specs.declared.result.ChildExit.TheVariants as exits
use Rattle.run_events.specs.declared.turn.Turn.{Turn}
use Rattle.run_events.specs.declared.turn.Turn.TheVariants as turns
use Rattle.run_input.specs.Input.{turn_line_of}
use Rattle.run_output.specs.Turns.{turn_text}

-- a number of 32 bits, without a sign
abbrev pub IsU32 : ℕ → Type 0
IsU32 n = n < 2 ^ 32

-- the code or the signal with which a child ended fits 32 bits with a sign
abbrev pub IsExit : ChildExit → Type 0
IsExit (exits.Code code) = FitsSigned w32 code
IsExit (exits.Signal signal) = FitsSigned w32 signal

-- the bytes of an environment file are bytes
abbrev pub IsEnvInput : EnvInput → Type 0
IsEnvInput (Bytes bytes) = IsBytes bytes
IsEnvInput OpenFailed = ⊤
IsEnvInput ReadFailed = ⊤

-- a key that is a character is one that UTF-8 has
abbrev pub IsKeyCode : KeyCode → Type 0
IsKeyCode Enter = ⊤
IsKeyCode (Char c) = IsScalar c

-- a turn whose numbers fit their types, whose texts are UTF-8, whose bytes are bytes, and whose character is one
abbrev pub IsTurn : Turn → Type 0
IsTurn (turns.Started unit pid) = IsU32 unit × IsU32 pid
IsTurn (turns.StartFailed unit error) = IsU32 unit × IsUtf8 error
IsTurn (turns.Exit unit exit) = IsU32 unit × IsExit exit
IsTurn (turns.WaitFailed unit error) = IsU32 unit × IsUtf8 error
IsTurn (turns.Piece unit stream bytes) = IsU32 unit × IsBytes bytes
IsTurn (turns.StreamEnd unit stream) = IsU32 unit
IsTurn (turns.ReadError unit stream error) = IsU32 unit × IsUtf8 error
IsTurn (turns.Env unit input) = IsU32 unit × IsEnvInput input
IsTurn (turns.Decide unit word) = IsU32 unit × IsU32 word
IsTurn (turns.UnitDue unit) = IsU32 unit
IsTurn (turns.Take unit) = IsU32 unit
IsTurn (turns.Clock ns) = ns < 2 ^ 64
IsTurn (turns.Key key) = IsKeyCode key.code
IsTurn _ = ⊤

-- the line of each such turn is read as that turn
abbrev pub TurnLinesAreRead : Type 0
TurnLinesAreRead = (t : Turn) → IsTurn t → turn_line_of (turn_text t) ≡ Some t

-- such turns that have the same line are the same
abbrev pub TurnLinesDiffer : Type 0
TurnLinesDiffer = (t u : Turn) → IsTurn t → IsTurn u → turn_text t ≡ turn_text u → t ≡ u
