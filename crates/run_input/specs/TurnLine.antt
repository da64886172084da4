-- What a turn line says.
use Rattle.std.specs.Prelude.{ℕ, Bool, List, [], ◌∷◌, Option, Some, None, option_map, option_and_then}
use Rattle.std.specs.Prelude.{if◌then◌else◌, nat_eq, codes}
use Rattle.std.specs.Result.{result_ok}
use Rattle.std.specs.Str.{chars}
use Rattle.serde_json.specs.Data.{Data}
use Rattle.serde_json.specs.Find.{get, as_str}
use Rattle.hex.specs.Hex.{decode_of}
use Rattle.run_capture.specs.declared.test_output.Stream.{Stream}
use Rattle.run_capture.specs.declared.test_output.Stream.TheVariants as streams
use Rattle.run_commands.specs.declared.script_helpers.EnvInput.{EnvInput}
use Rattle.run_commands.specs.declared.script_helpers.EnvInput.TheVariants.{Bytes, OpenFailed, ReadFailed}
use Rattle.run_events.specs.declared.result.ChildExit.{ChildExit}
use Rattle.run_events.specs.declared.result.ChildExit.TheVariants as exits
use Rattle.run_events.specs.declared.signal.Signal.{Signal as SignalKind}
use Rattle.run_events.specs.declared.signal.Signal.TheVariants.{Int, Hup, Term, Quit, Tstp, Cont, Usr1}
use Rattle.run_events.specs.declared.input.KeyCode.{KeyCode}
use Rattle.run_events.specs.declared.input.KeyCode.TheVariants.{Enter, Char}
use Rattle.run_events.specs.declared.turn.Turn.{Turn}
use Rattle.run_events.specs.declared.turn.Turn.TheVariants.{Begin, Admit, Deliver, Started, StartFailed, Exit}
use Rattle.run_events.specs.declared.turn.Turn.TheVariants.{WaitFailed, Piece, StreamEnd, ReadError, Env, Decide}
use Rattle.run_events.specs.declared.turn.Turn.TheVariants.{UnitDue, GlobalDue, StopWaitDue, InfoDue, Answer, Take}
use Rattle.run_events.specs.declared.turn.Turn.TheVariants.{Clock, Signal, Key, Tick, ReportCancel, End}
use Rattle.run_input.specs.declared.turn_name.TurnName.{TurnName}
use Rattle.run_input.specs.declared.turn_name.TurnName.TheVariants as names
use Rattle.run_input.specs.Fields.{◌>>=◌, when, is_object_of, u32_of, u64_of, i32_of, truth_of}
use lib.Pointwise.{pointwise}

-- whether a text is this word
abbrev pub is_word : List ℕ → List ℕ → Bool
is_word text word = pointwise nat_eq text word

-- the turn of a unit that a name names
abbrev pub unit_turn_named : List ℕ → Option TurnName
unit_turn_named name =
    if is_word name (codes "started") then Some names.Started
    else if is_word name (codes "start-failed") then Some names.StartFailed
    else if is_word name (codes "exit") then Some names.Exit
    else if is_word name (codes "wait-failed") then Some names.WaitFailed
    else if is_word name (codes "piece") then Some names.Piece
    else if is_word name (codes "stream-end") then Some names.StreamEnd
    else if is_word name (codes "read-error") then Some names.ReadError
    else if is_word name (codes "env") then Some names.Env
    else if is_word name (codes "decide") then Some names.Decide
    else if is_word name (codes "take") then Some names.Take
    else None

-- the turn that a name names
abbrev pub turn_named : List ℕ → Option TurnName
turn_named name =
    if is_word name (codes "begin") then Some names.Begin
    else if is_word name (codes "admit") then Some names.Admit
    else if is_word name (codes "deliver") then Some names.Deliver
    else if is_word name (codes "due") then Some names.Due
    else if is_word name (codes "answer") then Some names.Answer
    else if is_word name (codes "clock") then Some names.Clock
    else if is_word name (codes "signal") then Some names.Signal
    else if is_word name (codes "key") then Some names.Key
    else if is_word name (codes "tick") then Some names.Tick
    else if is_word name (codes "report-cancel") then Some names.ReportCancel
    else if is_word name (codes "end") then Some names.End
    else unit_turn_named name

-- the stream that a text names
abbrev pub stream_named : List ℕ → Option Stream
stream_named name =
    if is_word name (codes "stdout") then Some streams.Stdout
    else if is_word name (codes "stderr") then Some streams.Stderr
    else if is_word name (codes "combined") then Some streams.Combined
    else None

abbrev pub stream_of : Data → Option Stream
stream_of d = option_and_then stream_named (as_str d)

-- the signal that a text names
abbrev pub signal_named : List ℕ → Option SignalKind
signal_named name =
    if is_word name (codes "int") then Some Int
    else if is_word name (codes "hup") then Some Hup
    else if is_word name (codes "term") then Some Term
    else if is_word name (codes "quit") then Some Quit
    else if is_word name (codes "tstp") then Some Tstp
    else if is_word name (codes "cont") then Some Cont
    else if is_word name (codes "usr1") then Some Usr1
    else None

abbrev pub signal_from : Data → Option SignalKind
signal_from d = option_and_then signal_named (as_str d)

-- the one item of a list
abbrev pub only_one : List ℕ → Option ℕ
only_one (x ∷ []) = Some x
only_one _ = None

-- the key that a text names: `enter`, or one character
abbrev pub code_named : List ℕ → Option KeyCode
code_named name = if is_word name (codes "enter") then Some Enter else option_map Char (only_one (chars name))

abbrev pub code_of : Data → Option KeyCode
code_of d = option_and_then code_named (as_str d)

-- the bytes that a text writes with two digits each
abbrev pub hex_of : Data → Option (List ℕ)
hex_of d = option_and_then (λ text. result_ok (decode_of text)) (as_str d)

-- a turn that has its name alone
unfoldable pub bare_of : Turn → Data → Option Turn
bare_of turn d = do
  _ ← when (is_object_of (codes "turn" ∷ []) d)
  Some turn

-- a child that started
unfoldable pub started_of : Data → Option Turn
started_of d = do
  _ ← when (is_object_of (codes "pid" ∷ codes "turn" ∷ codes "unit" ∷ []) d)
  unit ← option_and_then u32_of (get (codes "unit") d)
  pid ← option_and_then u32_of (get (codes "pid") d)
  Some (Started unit pid)

-- a unit, and the text of the error that came up there
unfoldable pub failed_of : Data → Option (ℕ × List ℕ)
failed_of d = do
  _ ← when (is_object_of (codes "text" ∷ codes "turn" ∷ codes "unit" ∷ []) d)
  unit ← option_and_then u32_of (get (codes "unit") d)
  error ← option_and_then as_str (get (codes "text") d)
  Some (unit, error)

-- a child that could not be started
abbrev pub start_failed_of : Data → Option Turn
start_failed_of d = option_map (λ failed. StartFailed failed.0 failed.1) (failed_of d)

-- a child for which the wait failed
abbrev pub wait_failed_of : Data → Option Turn
wait_failed_of d = option_map (λ failed. WaitFailed failed.0 failed.1) (failed_of d)

-- how a child ended, from what stands at its code and at its signal: exactly one of them is there
abbrev pub child_exit_of : Option Data → Option Data → Option ChildExit
child_exit_of (Some code) None = option_map exits.Code (i32_of code)
child_exit_of None (Some signal) = option_map exits.Signal (i32_of signal)
child_exit_of _ _ = None

-- a child that ended
unfoldable pub exit_from : Data → Option Turn
exit_from d = do
  _ ← when (is_object_of (codes "code" ∷ codes "signal" ∷ codes "turn" ∷ codes "unit" ∷ []) d)
  unit ← option_and_then u32_of (get (codes "unit") d)
  exit ← child_exit_of (get (codes "code") d) (get (codes "signal") d)
  Some (Exit unit exit)

-- bytes that a child wrote to a stream
unfoldable pub piece_of : Data → Option Turn
piece_of d = do
  _ ← when (is_object_of (codes "hex" ∷ codes "stream" ∷ codes "turn" ∷ codes "unit" ∷ []) d)
  unit ← option_and_then u32_of (get (codes "unit") d)
  stream ← option_and_then stream_of (get (codes "stream") d)
  bytes ← option_and_then hex_of (get (codes "hex") d)
  Some (Piece unit stream bytes)

-- a stream that ended
unfoldable pub stream_end_of : Data → Option Turn
stream_end_of d = do
  _ ← when (is_object_of (codes "stream" ∷ codes "turn" ∷ codes "unit" ∷ []) d)
  unit ← option_and_then u32_of (get (codes "unit") d)
  stream ← option_and_then stream_of (get (codes "stream") d)
  Some (StreamEnd unit stream)

-- a stream that could not be read, with the text of the error
unfoldable pub read_error_of : Data → Option Turn
read_error_of d = do
  _ ← when (is_object_of (codes "stream" ∷ codes "text" ∷ codes "turn" ∷ codes "unit" ∷ []) d)
  unit ← option_and_then u32_of (get (codes "unit") d)
  stream ← option_and_then stream_of (get (codes "stream") d)
  error ← option_and_then as_str (get (codes "text") d)
  Some (ReadError unit stream error)

-- why an environment file was not read
abbrev pub env_failure_named : List ℕ → Option EnvInput
env_failure_named name =
    if is_word name (codes "open") then Some OpenFailed
    else if is_word name (codes "read") then Some ReadFailed
    else None

abbrev pub env_failure_of : Data → Option EnvInput
env_failure_of d = option_and_then env_failure_named (as_str d)

-- what came of an environment file, from what stands at its bytes and at its failure: exactly one of them is there
abbrev pub env_input_of : Option Data → Option Data → Option EnvInput
env_input_of (Some hex) None = option_map Bytes (hex_of hex)
env_input_of None (Some failed) = env_failure_of failed
env_input_of _ _ = None

-- a script's environment file
unfoldable pub env_file_from : Data → Option Turn
env_file_from d = do
  _ ← when (is_object_of (codes "failed" ∷ codes "hex" ∷ codes "turn" ∷ codes "unit" ∷ []) d)
  unit ← option_and_then u32_of (get (codes "unit") d)
  input ← env_input_of (get (codes "hex") d) (get (codes "failed") d)
  Some (Env unit input)

-- a decision about a unit, with its random word
unfoldable pub decide_of : Data → Option Turn
decide_of d = do
  _ ← when (is_object_of (codes "turn" ∷ codes "unit" ∷ codes "word" ∷ []) d)
  unit ← option_and_then u32_of (get (codes "unit") d)
  word ← option_and_then u32_of (get (codes "word") d)
  Some (Decide unit word)

-- a timer of the run's own
abbrev pub timer_named : List ℕ → Option Turn
timer_named name =
    if is_word name (codes "global") then Some GlobalDue
    else if is_word name (codes "stop") then Some StopWaitDue
    else if is_word name (codes "info") then Some InfoDue
    else None

abbrev pub timer_from : Data → Option Turn
timer_from d = option_and_then timer_named (as_str d)

-- the timer that is due, from what stands at its unit and at its name: exactly one of them is there
abbrev pub due_timer_of : Option Data → Option Data → Option Turn
due_timer_of (Some unit) None = option_map UnitDue (u32_of unit)
due_timer_of None (Some timer) = timer_from timer
due_timer_of _ _ = None

-- a timer that is due
unfoldable pub due_of : Data → Option Turn
due_of d = do
  _ ← when (is_object_of (codes "timer" ∷ codes "turn" ∷ codes "unit" ∷ []) d)
  due_timer_of (get (codes "unit") d) (get (codes "timer") d)

-- a unit that takes a request
unfoldable pub take_from : Data → Option Turn
take_from d = do
  _ ← when (is_object_of (codes "turn" ∷ codes "unit" ∷ []) d)
  unit ← option_and_then u32_of (get (codes "unit") d)
  Some (Take unit)

-- time that passed
unfoldable pub clock_of : Data → Option Turn
clock_of d = do
  _ ← when (is_object_of (codes "ns" ∷ codes "turn" ∷ []) d)
  ns ← option_and_then u64_of (get (codes "ns") d)
  Some (Clock ns)

-- a signal that came
unfoldable pub came_of : Data → Option Turn
came_of d = do
  _ ← when (is_object_of (codes "name" ∷ codes "turn" ∷ []) d)
  signal ← option_and_then signal_from (get (codes "name") d)
  Some (Signal signal)

-- a key that was pressed or let go
unfoldable pub key_of : Data → Option Turn
key_of d = do
  _ ← when (is_object_of (codes "code" ∷ codes "modified" ∷ codes "press" ∷ codes "turn" ∷ []) d)
  code ← option_and_then code_of (get (codes "code") d)
  modified ← option_and_then truth_of (get (codes "modified") d)
  press ← option_and_then truth_of (get (codes "press") d)
  Some (Key (record { code = code; modified = modified; press = press }))

-- what an object says as the turn of a name
abbrev pub turn_by : TurnName → Data → Option Turn
turn_by names.Begin d = bare_of Begin d
turn_by names.Admit d = bare_of Admit d
turn_by names.Deliver d = bare_of Deliver d
turn_by names.Started d = started_of d
turn_by names.StartFailed d = start_failed_of d
turn_by names.Exit d = exit_from d
turn_by names.WaitFailed d = wait_failed_of d
turn_by names.Piece d = piece_of d
turn_by names.StreamEnd d = stream_end_of d
turn_by names.ReadError d = read_error_of d
turn_by names.Env d = env_file_from d
turn_by names.Decide d = decide_of d
turn_by names.Due d = due_of d
turn_by names.Answer d = bare_of Answer d
turn_by names.Take d = take_from d
turn_by names.Clock d = clock_of d
turn_by names.Signal d = came_of d
turn_by names.Key d = key_of d
turn_by names.Tick d = bare_of Tick d
turn_by names.ReportCancel d = bare_of ReportCancel d
turn_by names.End d = bare_of End d

-- the turn that an object says, by the name at its key `turn`
unfoldable pub turn_of : Data → Option Turn
turn_of d = do
  name ← option_and_then as_str (get (codes "turn") d)
  kind ← turn_named name
  turn_by kind d
