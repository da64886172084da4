-- The line of a turn with its name first, from its parts.
use Rattle.std.proofs.Common.{◌≡◌, ◌∙◌, refl, sym, ap, subst, List, [], ◌∷◌, ◌++◌, ℕ, pos, Option, Some, codes}
use Rattle.std.specs.Prelude.{IfSome}
use Rattle.std.specs.Fmt.{decimal}
use Rattle.std.specs.List.Sorted.{IsPermutation}
use Rattle.std.proofs.lemmas.List.Sorted.{IsPermutation-sym, IsPermutation-trans}
use Rattle.std.proofs.lemmas.List.Sorted.{IsPermutation-to_front, IsPermutation-append_left}
use Rattle.hex.specs.Hex.{encode_lower, IsBytes}
use Rattle.json.specs.Print.{escape_byte, quoted}
use Rattle.run_capture.specs.declared.test_output.Stream.{Stream}
use Rattle.run_capture.specs.declared.test_output.Stream.TheVariants.{Stdout, Stderr, Combined}
use Rattle.run_events.specs.declared.result.ChildExit.TheVariants as exits
use Rattle.run_events.specs.declared.turn.Turn.{Turn}
use Rattle.run_events.specs.declared.turn.Turn.TheVariants as turns
use Rattle.run_output.specs.Fields.{count, signed}
use Rattle.run_output.specs.Texts.{bytes_data}
use Rattle.run_output.specs.Turns.{unit_fields, bare_fields, word_at, stream_word}
use Rattle.run_output.proofs.FrontsLemmas.{escape-hex}
use Rattle.run_turn_laws.specs.Order.{IsTurnText, text_in_order}
use Rattle.run_turn_reader.proofs.PieceLemmas.{around}

-- the first goes to the end
to_end : {X : Type 0} (first : X) (others : List X) → IsPermutation (first ∷ others) (others ++ first ∷ [])
to_end first others = IsPermutation-sym (others ++ first ∷ []) (first ∷ others) (IsPermutation-to_front others first)

-- the first two go to the end, the second before the first
both_to_end : {X : Type 0} (first second : X) (others : List X)
    → IsPermutation (first ∷ second ∷ others) ((others ++ second ∷ []) ++ first ∷ [])
both_to_end first second others =
    IsPermutation-trans _ _ _ (to_end first (second ∷ others))
    (IsPermutation-append_left (first ∷ []) (second ∷ others) (others ++ second ∷ []) (to_end second others))

-- ---- the lines that have the name first

-- the text of a start
started_text : (unit pid : ℕ) (bytes rest last : List ℕ) → bytes ≡ decimal unit ++ rest
    → rest ≡ codes ",\"pid\":" ++ last → last ≡ decimal pid ++ codes "}"
    → text_in_order (unit_fields (codes "started") unit ++ (codes "pid", Some (count pid)) ∷ [])
    ≡ codes "{\"turn\":\"started\",\"unit\":" ++ bytes
unfolding escape_byte
started_text unit pid bytes rest last first between end = rw (first, between, end) refl

-- a start
pub is_start : (unit pid : ℕ) (bytes rest last : List ℕ) → bytes ≡ decimal unit ++ rest
    → rest ≡ codes ",\"pid\":" ++ last → last ≡ decimal pid ++ codes "}"
    → IsTurnText (turns.Started unit pid) (codes "{\"turn\":\"started\",\"unit\":" ++ bytes)
is_start unit pid bytes rest last first between end = record {
  fields = unit_fields (codes "started") unit ++ (codes "pid", Some (count pid)) ∷ [];
  permuted = to_end (codes "pid", Some (count pid)) (unit_fields (codes "started") unit);
  is = started_text unit pid bytes rest last first between end;
}

-- the text of an exit with a code
code_text : (unit code : ℕ) (bytes : List ℕ) → bytes ≡ decimal code ++ codes "}"
    → text_in_order (unit_fields (codes "exit") unit ++ (codes "code", Some (signed (pos code))) ∷ [])
    ≡ codes "{\"turn\":\"exit\",\"unit\":" ++ (decimal unit ++ (codes ",\"code\":" ++ bytes))
unfolding escape_byte
code_text unit code bytes end = rw end refl

-- an exit with a code
pub is_code : (unit code : ℕ) (bytes : List ℕ) → bytes ≡ decimal code ++ codes "}"
    → IsTurnText (turns.Exit unit (exits.Code (pos code)))
    (codes "{\"turn\":\"exit\",\"unit\":" ++ (decimal unit ++ (codes ",\"code\":" ++ bytes)))
is_code unit code bytes end = record {
  fields = unit_fields (codes "exit") unit ++ (codes "code", Some (signed (pos code))) ∷ [];
  permuted = to_end (codes "code", Some (signed (pos code))) (unit_fields (codes "exit") unit);
  is = code_text unit code bytes end;
}

-- the text of an exit by a signal
signal_text : (unit signal : ℕ) (bytes : List ℕ) → bytes ≡ decimal signal ++ codes "}"
    → text_in_order (unit_fields (codes "exit") unit ++ (codes "signal", Some (signed (pos signal))) ∷ [])
    ≡ codes "{\"turn\":\"exit\",\"unit\":" ++ (decimal unit ++ (codes ",\"signal\":" ++ bytes))
unfolding escape_byte
signal_text unit signal bytes end = rw end refl

-- an exit by a signal
pub is_signal : (unit signal : ℕ) (bytes : List ℕ) → bytes ≡ decimal signal ++ codes "}"
    → IsTurnText (turns.Exit unit (exits.Signal (pos signal)))
    (codes "{\"turn\":\"exit\",\"unit\":" ++ (decimal unit ++ (codes ",\"signal\":" ++ bytes)))
is_signal unit signal bytes end = record {
  fields = unit_fields (codes "exit") unit ++ (codes "signal", Some (signed (pos signal))) ∷ [];
  permuted = to_end (codes "signal", Some (signed (pos signal))) (unit_fields (codes "exit") unit);
  is = signal_text unit signal bytes end;
}

-- the text of a step of the clock
step_text : (ns : ℕ) (bytes rest : List ℕ) → bytes ≡ decimal ns ++ rest → rest ≡ codes "}"
    → text_in_order (bare_fields (codes "clock") ++ (codes "ns", Some (count ns)) ∷ [])
    ≡ codes "{\"turn\":\"clock\",\"ns\":" ++ bytes
unfolding escape_byte
step_text ns bytes rest first end = rw (first, end) refl

-- a step of the clock
pub is_step : (ns : ℕ) (bytes rest : List ℕ) → bytes ≡ decimal ns ++ rest → rest ≡ codes "}"
    → IsTurnText (turns.Clock ns) (codes "{\"turn\":\"clock\",\"ns\":" ++ bytes)
is_step ns bytes rest first end = record {
  fields = bare_fields (codes "clock") ++ (codes "ns", Some (count ns)) ∷ [];
  permuted = to_end (codes "ns", Some (count ns)) (bare_fields (codes "clock"));
  is = step_text ns bytes rest first end;
}

-- the text of the end of a stream
closed_text : (unit : ℕ) (stream : Stream) (bytes rest : List ℕ)
    → bytes ≡ decimal unit ++ (codes ",\"stream\":\"" ++ (stream_word stream ++ rest)) → rest ≡ codes "\"}"
    → text_in_order (unit_fields (codes "stream-end") unit ++ word_at (codes "stream") (stream_word stream) ∷ [])
    ≡ codes "{\"turn\":\"stream-end\",\"unit\":" ++ bytes
unfolding stream_word escape_byte
closed_text unit Stdout bytes rest first end = rw (first, end) refl
closed_text unit Stderr bytes rest first end = rw (first, end) refl
closed_text unit Combined bytes rest first end = rw (first, end) refl

-- the end of a stream
pub is_closed : (unit : ℕ) (stream : Stream) (bytes rest : List ℕ)
    → bytes ≡ decimal unit ++ (codes ",\"stream\":\"" ++ (stream_word stream ++ rest)) → rest ≡ codes "\"}"
    → IsTurnText (turns.StreamEnd unit stream) (codes "{\"turn\":\"stream-end\",\"unit\":" ++ bytes)
is_closed unit stream bytes rest first end = record {
  fields = unit_fields (codes "stream-end") unit ++ word_at (codes "stream") (stream_word stream) ∷ [];
  permuted = to_end (word_at (codes "stream") (stream_word stream)) (unit_fields (codes "stream-end") unit);
  is = closed_text unit stream bytes rest first end;
}

-- the text of a piece, with its bytes last
piece_text : (unit : ℕ) (stream : Stream) (output : List ℕ) → text_in_order
    ((unit_fields (codes "piece") unit ++ word_at (codes "stream") (stream_word stream) ∷ [])
    ++ (codes "hex", Some (bytes_data output)) ∷ [])
    ≡ codes "{\"turn\":\"piece\",\"unit\":" ++ (decimal unit ++ (codes ",\"stream\":\"" ++ (stream_word stream
    ++ (codes "\",\"hex\":" ++ (quoted (encode_lower output) ++ codes "}")))))
unfolding stream_word escape_byte
piece_text unit Stdout output = refl
piece_text unit Stderr output = refl
piece_text unit Combined output = refl

-- a piece of output
pub is_wrote : (unit : ℕ) (stream : Stream) (output : List ℕ) → IsBytes output
    → IsTurnText (turns.Piece unit stream output) (codes "{\"turn\":\"piece\",\"unit\":" ++ (decimal unit
    ++ (codes ",\"stream\":\"" ++ (stream_word stream ++ (codes "\",\"hex\":\"" ++ (encode_lower output
    ++ codes "\"}"))))))
is_wrote unit stream output plain = record {
  fields = (unit_fields (codes "piece") unit ++ word_at (codes "stream") (stream_word stream) ∷ [])
      ++ (codes "hex", Some (bytes_data output)) ∷ [];
  permuted = both_to_end (codes "hex", Some (bytes_data output)) (word_at (codes "stream") (stream_word stream))
      (unit_fields (codes "piece") unit);
  is = piece_text unit stream output
      ∙ ap (λ l. codes "{\"turn\":\"piece\",\"unit\":" ++ (decimal unit ++ (codes ",\"stream\":\""
      ++ (stream_word stream ++ (codes "\",\"hex\":" ++ l)))))
      (around (encode_lower output) (codes "}") (escape-hex output plain));
}

-- ---- what holds of a line holds of the same line

-- a turn for another
pub of_same : (t u : Turn) (line : List ℕ) → t ≡ u → IsTurnText u line → IsTurnText t line
of_same t u line same h = subst (λ v. IsTurnText v line) (sym same) h

-- a line for another
pub at_same : (found : Option Turn) (line other : List ℕ) → line ≡ other → IfSome found (λ t. IsTurnText t other)
    → IfSome found (λ t. IsTurnText t line)
at_same found line other same h = subst (λ l. IfSome found (λ t. IsTurnText t l)) (sym same) h

-- an exit, by its unit and what stands before its number
pub exit_line : (unit : ℕ) (bytes rest key last : List ℕ) → bytes ≡ decimal unit ++ rest → rest ≡ key ++ last
    → codes "{\"turn\":\"exit\",\"unit\":" ++ bytes
    ≡ codes "{\"turn\":\"exit\",\"unit\":" ++ (decimal unit ++ (key ++ last))
exit_line unit bytes rest key last first end = rw (first, end) refl

-- a unit, and a stream's word
pub is_unit_stream : (unit : ℕ) (stream : Stream) (bytes rest next last : List ℕ) → bytes ≡ decimal unit ++ rest
    → rest ≡ codes ",\"stream\":\"" ++ next → next ≡ stream_word stream ++ last
    → bytes ≡ decimal unit ++ (codes ",\"stream\":\"" ++ (stream_word stream ++ last))
is_unit_stream unit stream bytes rest next last first between end = rw (first, between, end) refl

-- up to the hex of a piece
pub is_piece_head : (unit : ℕ) (stream : Stream) (bytes rest last : List ℕ)
    → bytes ≡ decimal unit ++ (codes ",\"stream\":\"" ++ (stream_word stream ++ rest))
    → rest ≡ codes "\",\"hex\":\"" ++ last
    → bytes ≡ decimal unit ++ (codes ",\"stream\":\"" ++ (stream_word stream ++ (codes "\",\"hex\":\"" ++ last)))
is_piece_head unit stream bytes rest last first end = rw (first, end) refl

-- a piece, by its head and its hex
pub is_piece_line : (t : Turn) (unit : ℕ) (stream : Stream) (bytes rest hex : List ℕ)
    → bytes ≡ decimal unit ++ (codes ",\"stream\":\"" ++ (stream_word stream ++ (codes "\",\"hex\":\"" ++ rest)))
    → rest ≡ hex ++ codes "\"}"
    → IsTurnText t (codes "{\"turn\":\"piece\",\"unit\":" ++ (decimal unit ++ (codes ",\"stream\":\""
    ++ (stream_word stream ++ (codes "\",\"hex\":\"" ++ (hex ++ codes "\"}"))))))
    → IsTurnText t (codes "{\"turn\":\"piece\",\"unit\":" ++ bytes)
is_piece_line t unit stream bytes rest hex first end h =
    subst (λ l. IsTurnText t (codes "{\"turn\":\"piece\",\"unit\":" ++ l)) (sym (rw (first, end) refl)) h
