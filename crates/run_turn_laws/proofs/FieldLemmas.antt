-- What stands at the keys of turns is read as what was put there, and is UTF-8.
use Rattle.std.proofs.Common.{◌≡◌, ◌∙◌, ℕ, ◌<◌, ◌^◌, ℤ, pos, negsuc, Bool, true, false, List, [], ◌∷◌, Some, codes}
use Rattle.std.proofs.Common.{length, refl, sym, ap, arith, lt-ltb, le-leb, ltb-true, append-nil, IsUtf8, FitsSigned}
use Rattle.std.proofs.Common.{w32}
use Rattle.std.specs.Char.{IsScalar, encode_utf8}
use Rattle.std.specs.Cmp.Lexicographic.{same_text}
use Rattle.std.specs.Result.{result_ok}
use Rattle.std.specs.Str.{IsAscii, chars}
use Rattle.std.proofs.lemmas.Str.{IsUtf8-encode, IsUtf8-from_ascii, chars-IsAscii, chars_past_char, chars-nil}
use Rattle.std.proofs.lemmas.Str.Ascii.{IsAscii-nil, IsAscii-cons}
use Rattle.std.proofs.lemmas.Bool.{and_parts}
use Rattle.json.proofs.Printed.Utf8.{are_ascii, IsUtf8-are_ascii}
use Rattle.hex.specs.Hex.{IsBytes, encode_lower, lower_digits}
use Rattle.hex.proofs.HexLemmas.{decode_of-encode_lower, IsAscii-encode_with}
use Rattle.run_capture.specs.declared.test_output.Stream.{Stream}
use Rattle.run_capture.specs.declared.test_output.Stream.TheVariants.{Stdout, Stderr, Combined}
use Rattle.run_events.specs.declared.input.KeyCode.{KeyCode}
use Rattle.run_events.specs.declared.input.KeyCode.TheVariants.{Enter, Char}
use Rattle.run_events.specs.declared.signal.Signal.{Signal}
use Rattle.run_events.specs.declared.signal.Signal.TheVariants.{Int, Hup, Term, Quit, Tstp, Cont, Usr1}
use Rattle.run_input.specs.Fields.{i32_of}
use Rattle.run_input.specs.TurnLine.{is_word, stream_named, signal_named, code_named, hex_of}
use Rattle.run_output.specs.Fields.{signed}
use Rattle.run_output.specs.Texts.{bytes_data}
use Rattle.run_output.specs.Turns.{stream_word, signal_word, key_text}
use Rattle.run_turn_laws.specs.TurnLines.{IsKeyCode}

-- the word of a stream names it
pub stream_again : (stream : Stream) → stream_named (stream_word stream) ≡ Some stream
unfolding stream_word
stream_again Stdout = refl
stream_again Stderr = refl
stream_again Combined = refl

-- the word of a stream is UTF-8
pub stream_utf8 : (stream : Stream) → IsUtf8 (stream_word stream)
unfolding stream_word
stream_utf8 Stdout = IsUtf8-are_ascii (codes "stdout") refl
stream_utf8 Stderr = IsUtf8-are_ascii (codes "stderr") refl
stream_utf8 Combined = IsUtf8-are_ascii (codes "combined") refl

-- the word of a signal names it
pub signal_again : (signal : Signal) → signal_named (signal_word signal) ≡ Some signal
unfolding signal_word
signal_again Int = refl
signal_again Hup = refl
signal_again Term = refl
signal_again Quit = refl
signal_again Tstp = refl
signal_again Cont = refl
signal_again Usr1 = refl

-- the word of a signal is UTF-8
pub signal_utf8 : (signal : Signal) → IsUtf8 (signal_word signal)
unfolding signal_word
signal_utf8 Int = IsUtf8-are_ascii (codes "int") refl
signal_utf8 Hup = IsUtf8-are_ascii (codes "hup") refl
signal_utf8 Term = IsUtf8-are_ascii (codes "term") refl
signal_utf8 Quit = IsUtf8-are_ascii (codes "quit") refl
signal_utf8 Tstp = IsUtf8-are_ascii (codes "tstp") refl
signal_utf8 Cont = IsUtf8-are_ascii (codes "cont") refl
signal_utf8 Usr1 = IsUtf8-are_ascii (codes "usr1") refl

-- the text of a character has that one character
one_char : (c : ℕ) → IsScalar c → chars (encode_utf8 c) ≡ c ∷ []
one_char c h =
    chars_past_char (encode_utf8 c) [] c (IsUtf8-encode c h) (sym (append-nil (encode_utf8 c)))
    ∙ ap (λ (l : List ℕ). c ∷ l) chars-nil

-- a text of ASCII, by a test
ascii_text : (xs : List ℕ) → are_ascii xs ≡ true → IsAscii xs
ascii_text [] e = IsAscii-nil
ascii_text (x ∷ xs) e = let p = and_parts _ _ e in IsAscii-cons x xs (ltb-true _ _ p.0) (ascii_text xs p.1)

-- `enter` has more than one character
no_char : (c : ℕ) → codes "enter" ≡ c ∷ [] → ⊥
no_char c e = let five : 5 ≡ 1 = ap length e in omega (arith, five)

-- the characters of `enter` are its bytes
enter_chars : chars (codes "enter") ≡ codes "enter"
enter_chars = chars-IsAscii (codes "enter") (ascii_text (codes "enter") refl)

-- so no character is that word
enter_or_char : (b : Bool) (c : ℕ) → IsScalar c → is_word (encode_utf8 c) (codes "enter") ≡ b → b ≡ false
enter_or_char false c h is = refl
enter_or_char true c h is =
    let same : encode_utf8 c ≡ codes "enter" = same_text _ _ (sym is) in
    absurd (no_char c (sym enter_chars ∙ ap chars (sym same) ∙ one_char c h))

-- the text of a key names it
pub code_again : (code : KeyCode) → IsKeyCode code → code_named (key_text code) ≡ Some code
unfolding key_text
code_again Enter h = refl
code_again (Char c) h = rw (enter_or_char _ c h refl, one_char c h) refl

-- the text of a key is UTF-8
pub code_utf8 : (code : KeyCode) → IsKeyCode code → IsUtf8 (key_text code)
unfolding key_text
code_utf8 Enter h = IsUtf8-are_ascii (codes "enter") refl
code_utf8 (Char c) h = IsUtf8-encode c h

-- the digits of bytes are read as these
pub hex_again : (bytes : List ℕ) → IsBytes bytes → hex_of (bytes_data bytes) ≡ Some bytes
hex_again bytes h = ap result_ok (decode_of-encode_lower bytes h)

-- the digits of bytes are UTF-8
pub hex_utf8 : (bytes : List ℕ) → IsUtf8 (encode_lower bytes)
hex_utf8 bytes =
    IsUtf8-from_ascii (encode_lower bytes) (IsAscii-encode_with lower_digits bytes (ascii_text lower_digits refl))

-- a number of 32 bits with a sign is read as it
pub signed_again : (z : ℤ) → FitsSigned w32 z → i32_of (signed z) ≡ Some z
signed_again (pos n) h =
    let low : n < 2 ^ 31 = h.sfits in
    rw (lt-ltb n (2 ^ 63) (omega (arith, low)), le-leb n 2147483647 (omega (arith, low))) refl
signed_again (negsuc n) h =
    let low : n < 2 ^ 31 = h.sfits in
    rw (le-leb n 2147483647 (omega (arith, low))) refl
