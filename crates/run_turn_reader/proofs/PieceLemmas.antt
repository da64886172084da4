-- The line of a piece, whose hex needs no escape.
use Rattle.std.proofs.Common.{◌≡◌, refl, ap, sym, ◌∙◌, append_assoc, List, [], ◌∷◌, ◌++◌, ℕ, codes}
use Rattle.std.specs.Fmt.{decimal}
use Rattle.hex.specs.Hex.{encode_lower, IsBytes}
use Rattle.json.specs.Print.{escape_byte, escape, quoted}
use Rattle.run_capture.specs.declared.test_output.Stream.{Stream}
use Rattle.run_capture.specs.declared.test_output.Stream.TheVariants.{Stdout, Stderr, Combined}
use Rattle.run_events.specs.declared.turn.Turn.TheVariants as turns
use Rattle.run_output.specs.Turns.{turn_text, stream_word}
use Rattle.run_output.proofs.FrontsLemmas.{escape-hex}

-- a string that needs no escape, and what stands behind it
pub around : (text rest : List ℕ) → escape text ≡ text → quoted text ++ rest ≡ 34 ∷ (text ++ 34 ∷ rest)
around text rest h = ap (λ t. 34 ∷ ((t ++ 34 ∷ []) ++ rest)) h ∙ ap (λ t. 34 ∷ t) (append_assoc text (34 ∷ []) rest)

-- a piece, by what stands behind its hex
abbrev behind : Stream → ℕ → List ℕ
behind stream unit = codes ",\"stream\":\"" ++ (stream_word stream ++ (codes "\",\"turn\":\"piece\",\"unit\":"
    ++ (decimal unit ++ codes "}")))

piece_is : (unit : ℕ) (stream : Stream) (output : List ℕ) → turn_text (turns.Piece unit stream output)
    ≡ codes "{\"hex\":" ++ (quoted (encode_lower output) ++ behind stream unit)
unfolding stream_word escape_byte
piece_is unit Stdout output = refl
piece_is unit Stderr output = refl
piece_is unit Combined output = refl

pub is_piece : (unit : ℕ) (stream : Stream) (output bytes : List ℕ) → IsBytes output
    → bytes ≡ codes "\",\"stream\":\"" ++ (stream_word stream ++ (codes "\",\"turn\":\"piece\",\"unit\":"
    ++ (decimal unit ++ codes "}")))
    → turn_text (turns.Piece unit stream output) ≡ codes "{\"hex\":\"" ++ (encode_lower output ++ bytes)
is_piece unit stream output bytes plain end = piece_is unit stream output
    ∙ ap (λ t. codes "{\"hex\":" ++ t) (around (encode_lower output) (behind stream unit) (escape-hex output plain))
    ∙ ap (λ t. codes "{\"hex\":\"" ++ (encode_lower output ++ t)) (sym end)
