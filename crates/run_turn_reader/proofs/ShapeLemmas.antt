-- The line of a turn, from its parts.
use Rattle.std.proofs.Common.{◌≡◌, refl, List, ◌++◌, ℕ, pos, codes}
use Rattle.std.specs.Fmt.{decimal}
use Rattle.json.specs.Print.{escape_byte}
use Rattle.run_capture.specs.declared.test_output.Stream.{Stream}
use Rattle.run_capture.specs.declared.test_output.Stream.TheVariants.{Stdout, Stderr, Combined}
use Rattle.run_events.specs.declared.result.ChildExit.TheVariants as exits
use Rattle.run_events.specs.declared.turn.Turn.TheVariants as turns
use Rattle.run_output.specs.Turns.{turn_text, stream_word}

-- the words of streams
pub is_combined : (bytes rest : List ℕ) → bytes ≡ codes "combined" ++ rest → bytes ≡ stream_word Combined ++ rest
unfolding stream_word
is_combined bytes rest h = h

pub is_stdout : (bytes rest : List ℕ) → bytes ≡ codes "stdout" ++ rest → bytes ≡ stream_word Stdout ++ rest
unfolding stream_word
is_stdout bytes rest h = h

pub is_stderr : (bytes rest : List ℕ) → bytes ≡ codes "stderr" ++ rest → bytes ≡ stream_word Stderr ++ rest
unfolding stream_word
is_stderr bytes rest h = h

-- a start
pub is_started : (unit pid : ℕ) (bytes rest last : List ℕ) → bytes ≡ decimal pid ++ rest
    → rest ≡ codes ",\"turn\":\"started\",\"unit\":" ++ last → last ≡ decimal unit ++ codes "}"
    → turn_text (turns.Started unit pid) ≡ codes "{\"pid\":" ++ bytes
unfolding escape_byte
is_started unit pid bytes rest last first between end = rw (first, between, end) refl

-- an exit with a code
pub is_exit : (unit code : ℕ) (bytes rest last : List ℕ) → bytes ≡ decimal code ++ rest
    → rest ≡ codes ",\"turn\":\"exit\",\"unit\":" ++ last → last ≡ decimal unit ++ codes "}"
    → turn_text (turns.Exit unit (exits.Code (pos code))) ≡ codes "{\"code\":" ++ bytes
unfolding escape_byte
is_exit unit code bytes rest last first between end = rw (first, between, end) refl

-- a step of the clock
pub is_clock : (ns : ℕ) (bytes rest : List ℕ) → bytes ≡ decimal ns ++ rest → rest ≡ codes ",\"turn\":\"clock\"}"
    → turn_text (turns.Clock ns) ≡ codes "{\"ns\":" ++ bytes
unfolding escape_byte
is_clock ns bytes rest first end = rw (first, end) refl

-- the end of a stream
pub is_stream_end : (unit : ℕ) (stream : Stream) (bytes rest last : List ℕ) → bytes ≡ stream_word stream ++ rest
    → rest ≡ codes "\",\"turn\":\"stream-end\",\"unit\":" ++ last → last ≡ decimal unit ++ codes "}"
    → turn_text (turns.StreamEnd unit stream) ≡ codes "{\"stream\":\"" ++ bytes
unfolding stream_word escape_byte
is_stream_end unit Stdout bytes rest last first between end = rw (first, between, end) refl
is_stream_end unit Stderr bytes rest last first between end = rw (first, between, end) refl
is_stream_end unit Combined bytes rest last first between end = rw (first, between, end) refl

-- units alone, and with a word
pub is_due : (unit : ℕ) (bytes rest : List ℕ) → bytes ≡ codes "due\",\"unit\":" ++ rest
    → rest ≡ decimal unit ++ codes "}" → turn_text (turns.UnitDue unit) ≡ codes "{\"turn\":\"" ++ bytes
unfolding escape_byte
is_due unit bytes rest first end = rw (first, end) refl

pub is_take : (unit : ℕ) (bytes rest : List ℕ) → bytes ≡ codes "take\",\"unit\":" ++ rest
    → rest ≡ decimal unit ++ codes "}" → turn_text (turns.Take unit) ≡ codes "{\"turn\":\"" ++ bytes
unfolding escape_byte
is_take unit bytes rest first end = rw (first, end) refl

pub is_decide : (unit word : ℕ) (bytes rest middle last : List ℕ) → bytes ≡ codes "decide\",\"unit\":" ++ rest
    → rest ≡ decimal unit ++ middle → middle ≡ codes ",\"word\":" ++ last → last ≡ decimal word ++ codes "}"
    → turn_text (turns.Decide unit word) ≡ codes "{\"turn\":\"" ++ bytes
unfolding escape_byte
is_decide unit word bytes rest middle last first next between end = rw (first, next, between, end) refl

-- what stands behind the bytes of a piece
pub is_piece_end : (unit : ℕ) (stream : Stream) (bytes next middle last : List ℕ)
    → bytes ≡ codes "\",\"stream\":\"" ++ next → next ≡ stream_word stream ++ middle
    → middle ≡ codes "\",\"turn\":\"piece\",\"unit\":" ++ last → last ≡ decimal unit ++ codes "}"
    → bytes ≡ codes "\",\"stream\":\"" ++ (stream_word stream ++ (codes "\",\"turn\":\"piece\",\"unit\":"
    ++ (decimal unit ++ codes "}")))
is_piece_end unit stream bytes next middle last first second third end = rw (first, second, third, end) refl

-- turns that say no more than what they are
pub is_deliver : (bytes : List ℕ) → bytes ≡ codes "deliver\"}" → turn_text turns.Deliver ≡ codes "{\"turn\":\"" ++ bytes
unfolding escape_byte
is_deliver bytes h = rw h refl

pub is_admit : (bytes : List ℕ) → bytes ≡ codes "admit\"}" → turn_text turns.Admit ≡ codes "{\"turn\":\"" ++ bytes
unfolding escape_byte
is_admit bytes h = rw h refl

pub is_answer : (bytes : List ℕ) → bytes ≡ codes "answer\"}" → turn_text turns.Answer ≡ codes "{\"turn\":\"" ++ bytes
unfolding escape_byte
is_answer bytes h = rw h refl

pub is_tick : (bytes : List ℕ) → bytes ≡ codes "tick\"}" → turn_text turns.Tick ≡ codes "{\"turn\":\"" ++ bytes
unfolding escape_byte
is_tick bytes h = rw h refl

pub is_begin : (bytes : List ℕ) → bytes ≡ codes "begin\"}" → turn_text turns.Begin ≡ codes "{\"turn\":\"" ++ bytes
unfolding escape_byte
is_begin bytes h = rw h refl

pub is_end : (bytes : List ℕ) → bytes ≡ codes "end\"}" → turn_text turns.End ≡ codes "{\"turn\":\"" ++ bytes
unfolding escape_byte
is_end bytes h = rw h refl
