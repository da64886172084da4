-- A turn's line is read as that turn.
use Rattle.std.proofs.Common.{◌≡◌, ◌∙◌, ℕ, ◌^◌, List, Some, true, false, option_and_then, refl, sym, ap, arith, lt-ltb}
use Rattle.std.specs.Str.{is_utf8}
use Rattle.hex.specs.Hex.{IsBytes}
use Rattle.serde_json.specs.Data.{Data}
use Rattle.serde_json.specs.Read.{read}
use Rattle.serde_json.specs.Written.{has_float}
use Rattle.run_capture.specs.declared.test_output.Stream.{Stream}
use Rattle.run_commands.specs.declared.script_helpers.EnvInput.{EnvInput}
use Rattle.run_commands.specs.declared.script_helpers.EnvInput.TheVariants.{Bytes, OpenFailed, ReadFailed}
use Rattle.run_events.specs.declared.input.Key.{Key}
use Rattle.run_events.specs.declared.result.ChildExit.{ChildExit}
use Rattle.run_events.specs.declared.result.ChildExit.TheVariants as exits
use Rattle.run_events.specs.declared.signal.Signal.{Signal}
use Rattle.run_events.specs.declared.turn.Turn.{Turn}
use Rattle.run_events.specs.declared.turn.Turn.TheVariants as turns
use Rattle.run_input.specs.Input.{turn_line_of}
use Rattle.run_input.specs.TurnLine.{bare_of, started_of, failed_of, exit_from, piece_of, stream_end_of, read_error_of}
use Rattle.run_input.specs.TurnLine.{env_file_from, decide_of, due_of, take_from, clock_of, came_of, key_of, turn_of}
use Rattle.run_input.specs.ValueOf.{json_value}
use Rattle.run_output.specs.Turns.{turn_data, turn_text, turn_fields}
use Rattle.run_text_laws.specs.Plain.{IsRead, IsPlain}
use Rattle.run_text_laws.proofs.ObjectLemmas.{has_fields}
use Rattle.run_text_laws.proofs.ReadLemmas.{all_read}
use Rattle.run_turn_laws.specs.Order.{IsTurnText, text_in_order}
use Rattle.run_turn_laws.specs.TurnLines.{IsU32, IsExit, IsEnvInput, IsKeyCode, IsTurn}
use Rattle.run_turn_laws.proofs.FieldLemmas.{stream_again, signal_again, code_again, hex_again, signed_again}
use Rattle.run_turn_laws.proofs.FlatLemmas.{turn_flat}
use Rattle.run_turn_laws.proofs.OrderLemmas.{read_in_order}
use Rattle.run_turn_laws.proofs.PermutedLemmas.{same_object}
use Rattle.run_turn_laws.proofs.PlainLemmas.{turn_plain, turn_depth}

-- an exit is read as it
exit_again : (unit : ℕ) (exit : ChildExit) → IsU32 unit → IsExit exit
    → turn_of (turn_data (turns.Exit unit exit)) ≡ Some (turns.Exit unit exit)
unfolding turn_of exit_from
exit_again unit (exits.Code code) fits h = rw (lt-ltb unit (2 ^ 32) fits, signed_again code h) refl
exit_again unit (exits.Signal signal) fits h = rw (lt-ltb unit (2 ^ 32) fits, signed_again signal h) refl

-- a piece is read as it
piece_again : (unit : ℕ) (stream : Stream) (bytes : List ℕ) → IsU32 unit → IsBytes bytes
    → turn_of (turn_data (turns.Piece unit stream bytes)) ≡ Some (turns.Piece unit stream bytes)
unfolding turn_of piece_of
piece_again unit stream bytes fits h =
    rw (lt-ltb unit (2 ^ 32) fits, stream_again stream, hex_again bytes h) refl

-- the end of a stream is read as it
stream_end_again : (unit : ℕ) (stream : Stream) → IsU32 unit
    → turn_of (turn_data (turns.StreamEnd unit stream)) ≡ Some (turns.StreamEnd unit stream)
unfolding turn_of stream_end_of
stream_end_again unit stream fits = rw (lt-ltb unit (2 ^ 32) fits, stream_again stream) refl

-- an error of reading is read as it
read_error_again : (unit : ℕ) (stream : Stream) (error : List ℕ) → IsU32 unit
    → turn_of (turn_data (turns.ReadError unit stream error)) ≡ Some (turns.ReadError unit stream error)
unfolding turn_of read_error_of
read_error_again unit stream error fits = rw (lt-ltb unit (2 ^ 32) fits, stream_again stream) refl

-- what became of an environment file is read as it
env_again : (unit : ℕ) (input : EnvInput) → IsU32 unit → IsEnvInput input
    → turn_of (turn_data (turns.Env unit input)) ≡ Some (turns.Env unit input)
unfolding turn_of env_file_from
env_again unit (Bytes bytes) fits h = rw (lt-ltb unit (2 ^ 32) fits, hex_again bytes h) refl
env_again unit OpenFailed fits h = rw (lt-ltb unit (2 ^ 32) fits) refl
env_again unit ReadFailed fits h = rw (lt-ltb unit (2 ^ 32) fits) refl

-- a signal is read as it
signal_turn_again : (signal : Signal) → turn_of (turn_data (turns.Signal signal)) ≡ Some (turns.Signal signal)
unfolding turn_of came_of
signal_turn_again signal = rw (signal_again signal) refl

-- a key is read as it
key_again : (key : Key) → IsKeyCode key.code → turn_of (turn_data (turns.Key key)) ≡ Some (turns.Key key)
unfolding turn_of key_of
key_again key h = rw (code_again key.code h) refl

-- the object of each turn whose parts fit their types is read as that turn
again : (t : Turn) → IsTurn t → turn_of (turn_data t) ≡ Some t
unfolding turn_of bare_of started_of failed_of decide_of due_of take_from clock_of
again turns.Begin h = refl
again turns.Admit h = refl
again turns.Deliver h = refl
again (turns.Started unit pid) h = rw (lt-ltb unit (2 ^ 32) h.0, lt-ltb pid (2 ^ 32) h.1) refl
again (turns.StartFailed unit error) h = rw (lt-ltb unit (2 ^ 32) h.0) refl
again (turns.Exit unit exit) h = exit_again unit exit h.0 h.1
again (turns.WaitFailed unit error) h = rw (lt-ltb unit (2 ^ 32) h.0) refl
again (turns.Piece unit stream bytes) h = piece_again unit stream bytes h.0 h.1
again (turns.StreamEnd unit stream) h = stream_end_again unit stream h
again (turns.ReadError unit stream error) h = read_error_again unit stream error h.0
again (turns.Env unit input) h = env_again unit input h.0 h.1
again (turns.Decide unit word) h = rw (lt-ltb unit (2 ^ 32) h.0, lt-ltb word (2 ^ 32) h.1) refl
again (turns.UnitDue unit) h = rw (lt-ltb unit (2 ^ 32) h) refl
again turns.GlobalDue h = refl
again turns.StopWaitDue h = refl
again turns.InfoDue h = refl
again turns.Answer h = refl
again (turns.Take unit) h = rw (lt-ltb unit (2 ^ 32) h) refl
again (turns.Clock ns) h = refl
again (turns.Signal signal) h = signal_turn_again signal
again (turns.Key key) h = key_again key h
again turns.Tick h = refl
again turns.ReportCancel h = refl
again turns.End h = refl

-- a text that is UTF-8 and read as a value with no float has that JSON value
json_value-text : (text : List ℕ) (d : Data) → is_utf8 text ≡ true → read text ≡ Some d → has_float d ≡ false
    → json_value text ≡ Some d
unfolding json_value
json_value-text text d utf8 is whole = rw (utf8, is, whole) refl

-- the object of a turn is read back
turn_read : (t : Turn) → IsTurn t → IsRead (turn_data t)
turn_read t h =
    let plain : IsPlain (turn_data t) = (has_fields (turn_fields t)).plain (turn_plain t h) in
    all_read (turn_data t) plain (omega (arith, turn_depth t))

-- the line of each such turn is read as that turn
pub lines_read : (t : Turn) → IsTurn t → turn_line_of (turn_text t) ≡ Some t
lines_read t h =
    let is = turn_read t h in
    ap (option_and_then turn_of) (json_value-text (turn_text t) (turn_data t) is.utf8 is.read is.whole) ∙ again t h

-- so is its line with its fields in any order
pub lines_read_in_any_order : (t : Turn) (line : List ℕ) → IsTurn t → IsTurnText t line → turn_line_of line ≡ Some t
lines_read_in_any_order t line h text =
    let flat = turn_flat t in
    let other = same_object (turn_fields t) text.fields (turn_plain t h) flat.shallow flat.apart text.permuted in
    let is = read_in_order text.fields other.plain other.shallow in
    let value : json_value (text_in_order text.fields) ≡ Some (turn_data t) =
    json_value-text (text_in_order text.fields) (turn_data t) is.utf8 (is.read ∙ ap Some other.same)
    (turn_read t h).whole in
    ap turn_line_of (sym text.is) ∙ ap (option_and_then turn_of) value ∙ again t h

-- there is one turn in a `Some`
one : (t u : Turn) → Some t ≡ Some u → t ≡ u
one t u e = cc e

-- such turns with the same line are the same
pub lines_differ : (t u : Turn) → IsTurn t → IsTurn u → turn_text t ≡ turn_text u → t ≡ u
lines_differ t u h k same = one t u (sym (lines_read t h) ∙ ap turn_line_of same ∙ lines_read u k)
