-- A turn as the object that its line in an input is, and the lines of receipts that a journal doesn't bear out.
use Rattle.std.specs.Prelude.{ℕ, List, [], ◌∷◌, Option, Some, None, Bool, true, false, codes}
use Rattle.std.specs.Char.{encode_utf8}
use Rattle.serde_json.specs.Data.{Data, boolean, string, null}
use Rattle.run_capture.specs.declared.test_output.Stream.{Stream}
use Rattle.run_capture.specs.declared.test_output.Stream.TheVariants.{Stdout, Stderr, Combined}
use Rattle.run_commands.specs.declared.script_helpers.EnvInput.{EnvInput}
use Rattle.run_commands.specs.declared.script_helpers.EnvInput.TheVariants.{Bytes, OpenFailed, ReadFailed}
use Rattle.run_events.specs.declared.input.KeyCode.{KeyCode}
use Rattle.run_events.specs.declared.input.KeyCode.TheVariants.{Enter, Char}
use Rattle.run_events.specs.declared.result.ChildExit.{ChildExit}
use Rattle.run_events.specs.declared.result.ChildExit.TheVariants as exits
use Rattle.run_events.specs.declared.signal.Signal.{Signal}
use Rattle.run_events.specs.declared.signal.Signal.TheVariants.{Int, Hup, Term, Quit, Tstp, Cont, Usr1}
use Rattle.run_events.specs.declared.turn.Turn.{Turn}
use Rattle.run_events.specs.declared.turn.Turn.TheVariants as turns
use Rattle.run_output.specs.Fields.{count, signed, object_of, object_text}
use Rattle.run_output.specs.Texts.{bytes_data}

-- a stream by its word
unfoldable pub stream_word : Stream → List ℕ
stream_word Stdout = codes "stdout"
stream_word Stderr = codes "stderr"
stream_word Combined = codes "combined"

-- a signal to the runner by its word
unfoldable pub signal_word : Signal → List ℕ
signal_word Int = codes "int"
signal_word Hup = codes "hup"
signal_word Term = codes "term"
signal_word Quit = codes "quit"
signal_word Tstp = codes "tstp"
signal_word Cont = codes "cont"
signal_word Usr1 = codes "usr1"

-- a key by its word or its character
unfoldable pub key_text : KeyCode → List ℕ
key_text Enter = codes "enter"
key_text (Char c) = encode_utf8 c

-- a key of an object, with a text
abbrev pub word_at : List ℕ → List ℕ → List ℕ × Option Data
word_at key word = (key, Some (string word))

-- a turn that has no further key, and one that has a unit alone
abbrev pub bare_fields : List ℕ → List (List ℕ × Option Data)
bare_fields name = word_at (codes "turn") name ∷ []

abbrev pub unit_fields : List ℕ → ℕ → List (List ℕ × Option Data)
unit_fields name unit = word_at (codes "turn") name ∷ (codes "unit", Some (count unit)) ∷ []

-- a timer that is due
abbrev pub timer_fields : List ℕ → List (List ℕ × Option Data)
timer_fields timer = word_at (codes "timer") timer ∷ word_at (codes "turn") (codes "due") ∷ []

-- a unit at which something failed
abbrev pub failed_fields : List ℕ → ℕ → List ℕ → List (List ℕ × Option Data)
failed_fields name unit error = word_at (codes "text") error ∷ unit_fields name unit

-- how a unit's child ended
abbrev pub exit_fields : ℕ → ChildExit → List (List ℕ × Option Data)
exit_fields unit (exits.Code code) = (codes "code", Some (signed code)) ∷ unit_fields (codes "exit") unit
exit_fields unit (exits.Signal signal) = (codes "signal", Some (signed signal)) ∷ unit_fields (codes "exit") unit

-- what became of a script's environment file
abbrev pub env_fields : ℕ → EnvInput → List (List ℕ × Option Data)
env_fields unit (Bytes bytes) = (codes "hex", Some (bytes_data bytes)) ∷ unit_fields (codes "env") unit
env_fields unit OpenFailed = word_at (codes "failed") (codes "open") ∷ unit_fields (codes "env") unit
env_fields unit ReadFailed = word_at (codes "failed") (codes "read") ∷ unit_fields (codes "env") unit

-- the keys of a turn
abbrev pub turn_fields : Turn → List (List ℕ × Option Data)
turn_fields turns.Begin = bare_fields (codes "begin")
turn_fields turns.Admit = bare_fields (codes "admit")
turn_fields turns.Deliver = bare_fields (codes "deliver")
turn_fields (turns.Started unit pid) = (codes "pid", Some (count pid)) ∷ unit_fields (codes "started") unit
turn_fields (turns.StartFailed unit error) = failed_fields (codes "start-failed") unit error
turn_fields (turns.Exit unit exit) = exit_fields unit exit
turn_fields (turns.WaitFailed unit error) = failed_fields (codes "wait-failed") unit error
turn_fields (turns.Piece unit stream bytes) =
    (codes "hex", Some (bytes_data bytes)) ∷ word_at (codes "stream") (stream_word stream)
    ∷ unit_fields (codes "piece") unit
turn_fields (turns.StreamEnd unit stream) =
    word_at (codes "stream") (stream_word stream) ∷ unit_fields (codes "stream-end") unit
turn_fields (turns.ReadError unit stream error) =
    word_at (codes "stream") (stream_word stream) ∷ failed_fields (codes "read-error") unit error
turn_fields (turns.Env unit input) = env_fields unit input
turn_fields (turns.Decide unit word) =
    (codes "turn", Some (string (codes "decide"))) ∷ (codes "unit", Some (count unit))
    ∷ (codes "word", Some (count word)) ∷ []
turn_fields (turns.UnitDue unit) = unit_fields (codes "due") unit
turn_fields turns.GlobalDue = timer_fields (codes "global")
turn_fields turns.StopWaitDue = timer_fields (codes "stop")
turn_fields turns.InfoDue = timer_fields (codes "info")
turn_fields turns.Answer = bare_fields (codes "answer")
turn_fields (turns.Take unit) = unit_fields (codes "take") unit
turn_fields (turns.Clock ns) = (codes "ns", Some (count ns)) ∷ bare_fields (codes "clock")
turn_fields (turns.Signal signal) = word_at (codes "name") (signal_word signal) ∷ bare_fields (codes "signal")
turn_fields (turns.Key key) =
    word_at (codes "code") (key_text key.code) ∷ (codes "modified", Some (boolean key.modified))
    ∷ (codes "press", Some (boolean key.press)) ∷ bare_fields (codes "key")
turn_fields turns.Tick = bare_fields (codes "tick")
turn_fields turns.ReportCancel = bare_fields (codes "report-cancel")
turn_fields turns.End = bare_fields (codes "end")

-- a turn that says no more than what it is
abbrev pub is_bare : Turn → Bool
is_bare turns.Begin = true
is_bare turns.Admit = true
is_bare turns.Deliver = true
is_bare turns.GlobalDue = true
is_bare turns.StopWaitDue = true
is_bare turns.InfoDue = true
is_bare turns.Answer = true
is_bare turns.Tick = true
is_bare turns.ReportCancel = true
is_bare turns.End = true
is_bare _ = false

-- a turn as an object, and its line
abbrev pub turn_data : Turn → Data
turn_data turn = object_of (turn_fields turn)

abbrev pub turn_text : Turn → List ℕ
turn_text turn = object_text (turn_fields turn)

-- a turn, or null where there is none
abbrev pub found_data : Option Turn → Data
found_data None = null
found_data (Some turn) = turn_data turn

-- the line of a run that has other settings than it was given, of a receipt whose turn the journal doesn't have at its
-- number, and of a number that two receipts have
abbrev pub other_settings_text : List ℕ
other_settings_text =
    object_text (word_at (codes "fault") (codes "receipt") ∷ (codes "status", Some (count 13)) ∷ [])

abbrev pub mismatch_text : ℕ → Turn → Option Turn → List ℕ
mismatch_text number receipt found =
    object_text (word_at (codes "fault") (codes "receipt") ∷ (codes "journal", Some (found_data found))
    ∷ (codes "number", Some (count number)) ∷ (codes "receipt", Some (turn_data receipt))
    ∷ (codes "status", Some (count 13)) ∷ [])

abbrev pub repeated_text : ℕ → List ℕ
repeated_text number =
    object_text (word_at (codes "fault") (codes "receipt") ∷ (codes "number", Some (count number))
    ∷ (codes "status", Some (count 13)) ∷ [])
