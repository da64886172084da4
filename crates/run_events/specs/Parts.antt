-- Kinds of turns and events.
use Rattle.std.specs.Prelude.{Bool, true, false}
use Rattle.run_events.specs.declared.turn.Turn.{Turn}
use Rattle.run_events.specs.declared.turn.Turn.TheVariants.{StartFailed, WaitFailed, Piece, ReadError, Env}
use Rattle.run_events.specs.declared.events.TestEventKind.{TestEventKind}
use Rattle.run_events.specs.declared.events.TestEventKind.TheVariants as kinds

-- a turn that holds text or bytes
abbrev pub has_bytes : Turn → Bool
has_bytes (StartFailed unit error) = true
has_bytes (WaitFailed unit error) = true
has_bytes (Piece unit stream bytes) = true
has_bytes (ReadError unit stream error) = true
has_bytes (Env unit input) = true
has_bytes _ = false

-- an event of one script or test
abbrev pub is_of_unit : TestEventKind → Bool
is_of_unit (kinds.SetupScriptStarted e) = true
is_of_unit (kinds.SetupScriptSlow e) = true
is_of_unit (kinds.SetupScriptFinished e) = true
is_of_unit (kinds.TestStarted e) = true
is_of_unit (kinds.TestSlow e) = true
is_of_unit (kinds.TestAttemptFailedWillRetry e) = true
is_of_unit (kinds.TestRetryStarted e) = true
is_of_unit (kinds.TestFinished e) = true
is_of_unit (kinds.TestSkipped e) = true
is_of_unit _ = false
