-- What is shown of a text has no byte that a terminal would act on, and ends no line.
use Rattle.std.proofs.Common.{◌≡◌, ℕ, zero, suc, ◌≤◌, ◌/◌, ◌%◌, ◌==◌, Bool, true, false, cond, List, [], ◌∷◌, ◌++◌}
use Rattle.std.proofs.Common.{refl, arith, codes, inl, inr}
use Rattle.std.proofs.Math.Utf8.{encode}
use Rattle.std.proofs.lemmas.Bool.Decides.{nat_tests}
use Rattle.std.specs.Fmt.{digit_glyph, digits, digits_onto}
use Rattle.std.specs.List.{flat_map}
use Rattle.std.specs.Str.{chars}
use lib.Dec.{ltb}
use Rattle.run_report.specs.declared.style.Style.{Style}
use Rattle.run_report.specs.declared.style.Style.TheVariants as styles
use Rattle.run_report.specs.declared.levels.ReportSettings.{ReportSettings}
use Rattle.run_report.specs.Laws.{AreColored, ArePlain, IsLineOf, is_output}
use Rattle.run_report.specs.Pieces.{Piece, again, counts, final, note, output, output_again, piece_bytes, rule, script}
use Rattle.run_report.specs.Pieces.{summary, test, warning, words}
use Rattle.run_report.specs.Style.{Span, acts, escape_of, shown_text, escaped_number, painted, shown_char, span_bytes}
use Rattle.run_report.specs.Style.{line_shown, spans_bytes, style_code}

pub plain-append : (xs ys : List ℕ) → ArePlain xs → ArePlain ys → ArePlain (xs ++ ys)
plain-append [] ys p q = q
plain-append (x ∷ xs) ys p q = (p.0, plain-append xs ys p.1 q)

colored-append : (xs ys : List ℕ) → AreColored xs → AreColored ys → AreColored (xs ++ ys)
colored-append [] ys p q = q
colored-append (x ∷ xs) ys p q = (p.0, colored-append xs ys p.1 q)

colored-plain : (xs : List ℕ) → ArePlain xs → AreColored xs
colored-plain [] p = tt
colored-plain (x ∷ xs) p = (inr p.0, colored-plain xs p.1)

plain-flat : {X : Type 0} (f : X → List ℕ) (xs : List X) → ((x : X) → ArePlain (f x)) → ArePlain (flat_map f xs)
plain-flat f [] each = tt
plain-flat f (x ∷ xs) each = plain-append (f x) (flat_map f xs) (each x) (plain-flat f xs each)

-- of two lists the chosen one
plain-chosen : (test : Bool) (xs ys : List ℕ) → (test ≡ true → ArePlain xs) → ArePlain ys → ArePlain (cond test xs ys)
plain-chosen true xs ys p q = p refl
plain-chosen false xs ys p q = q

-- a character that isn't below a blank
encode-plain : (c : ℕ) → 32 ≤ c → ArePlain (encode c)
unfolding encode
encode-plain c least =
    plain-chosen (ltb c 128) _ _ (λ _. (omega (arith, least), tt))
    (plain-chosen (ltb c 2048) _ _ (λ _. (omega arith, (omega arith, tt)))
    (plain-chosen (ltb c 65536) _ _ (λ _. (omega arith, (omega arith, (omega arith, tt))))
    (omega arith, (omega arith, (omega arith, (omega arith, tt))))))

-- a digit
glyph-plain : (d : ℕ) → 32 ≤ digit_glyph false d
glyph-plain d = grind (arith, nat_tests)

digits-plain : (k base n : ℕ) (more : List ℕ) → ArePlain more → ArePlain (digits_onto k base false n more)
digits-plain zero base n more p = p
digits-plain (suc k) base n more p =
    plain-chosen (n / base == 0) _ _ (λ _. (glyph-plain (n % base), p))
    (digits-plain k base (n / base) (digit_glyph false (n % base) ∷ more) (glyph-plain (n % base), p))

number-plain : (c : ℕ) → ArePlain (escaped_number c)
unfolding digits
number-plain c =
    plain-append (codes "\\u{") (digits 16 false c ++ codes "}") (omega arith, (omega arith, (omega arith, tt)))
    (plain-append (digits 16 false c) (codes "}") (digits-plain 64 16 c [] tt) (omega arith, tt))

escape-plain : (c : ℕ) → ArePlain (escape_of c)
escape-plain c =
    plain-chosen (c == 10) _ _ (λ _. (omega arith, (omega arith, tt)))
    (plain-chosen (c == 13) _ _ (λ _. (omega arith, (omega arith, tt)))
    (plain-chosen (c == 9) _ _ (λ _. (omega arith, (omega arith, tt))) (number-plain c)))

-- a character that doesn't act isn't below a blank
quiet-least : (c : ℕ) → acts c ≡ false → 32 ≤ c
quiet-least c quiet = grind (arith, nat_tests)

shown-either : (c : ℕ) (test : Bool) → acts c ≡ test → ArePlain (cond test (escape_of c) (encode c))
shown-either c true e = escape-plain c
shown-either c false e = encode-plain c (quiet-least c e)

shown-plain : (c : ℕ) → ArePlain (shown_char c)
shown-plain c = shown-either c (acts c) refl

-- a text as it is shown
pub shown_text-plain : (text : List ℕ) → ArePlain (shown_text text)
unfolding shown_text
shown_text-plain text = plain-flat shown_char (chars text) shown-plain

-- parts without colours
spans-plain : (spans : List Span) → ArePlain (spans_bytes false spans)
unfolding spans_bytes
spans-plain spans = plain-flat (span_bytes false) spans (λ span. shown_text-plain span.1)

-- what a colour adds
paint-colored : (code text : List ℕ) → ArePlain code → ArePlain text
    → AreColored (27 ∷ (code ++ (text ++ (27 ∷ codes "[0m"))))
paint-colored code text p q = (
  inl refl,
  colored-append code (text ++ (27 ∷ codes "[0m")) (colored-plain code p)
      (colored-append text (27 ∷ codes "[0m") (colored-plain text q)
      (inl refl, (inr (omega arith), (inr (omega arith), (inr (omega arith), tt))))),
)

painted-colored : (style : Style) (text : List ℕ) → ArePlain text → AreColored (painted style text)
painted-colored styles.Plain text p = colored-plain text p
painted-colored styles.Bold text p = paint-colored (style_code styles.Bold) text (search (arith, tt)) p
painted-colored styles.Green text p = paint-colored (style_code styles.Green) text (search (arith, tt)) p
painted-colored styles.Yellow text p = paint-colored (style_code styles.Yellow) text (search (arith, tt)) p
painted-colored styles.Red text p = paint-colored (style_code styles.Red) text (search (arith, tt)) p
painted-colored styles.Magenta text p = paint-colored (style_code styles.Magenta) text (search (arith, tt)) p
painted-colored styles.Cyan text p = paint-colored (style_code styles.Cyan) text (search (arith, tt)) p

colored-flat : (spans : List Span) → AreColored (flat_map (span_bytes true) spans)
colored-flat [] = tt
colored-flat (span ∷ spans) =
    colored-append (span_bytes true span) (flat_map (span_bytes true) spans)
    (painted-colored span.0 (shown_text span.1) (shown_text-plain span.1)) (colored-flat spans)

-- parts with colours
spans-colored : (spans : List Span) → AreColored (spans_bytes true spans)
unfolding spans_bytes
spans-colored spans = colored-flat spans

spans-either : (color : Bool) (spans : List Span) → AreColored (spans_bytes color spans)
spans-either true spans = spans-colored spans
spans-either false spans = colored-plain (spans_bytes false spans) (spans-plain spans)

line-colored : (color : Bool) (spans : List Span) → IsLineOf AreColored (line_shown color spans)
line-colored color spans = (spans_bytes color spans, spans-either color spans, refl)

-- a piece that is a line
pub piece-colored : (settings : ReportSettings) (piece : Piece) → is_output piece ≡ false
    → IsLineOf AreColored (piece_bytes settings piece)
piece-colored settings rule e = line-colored settings.color _
piece-colored settings (words style word said) e = line-colored settings.color _
piece-colored settings (warning said) e = line-colored settings.color _
piece-colored settings (note spans) e = line-colored settings.color _
piece-colored settings (script line) e = line-colored settings.color _
piece-colored settings (test line) e = line-colored settings.color _
piece-colored settings (final line) e = line-colored settings.color _
piece-colored settings (again line) e = line-colored settings.color _
piece-colored settings (output block) e = cc
piece-colored settings (output_again block) e = cc
piece-colored settings (summary elapsed stats) e = line-colored settings.color _
piece-colored settings (counts elapsed stats running) e = line-colored settings.color _

line-plain : (color : Bool) (spans : List Span) → color ≡ false → IsLineOf ArePlain (line_shown color spans)
line-plain true spans e = cc
line-plain false spans e = (spans_bytes false spans, spans-plain spans, refl)

-- the same without colours
pub piece-plain : (settings : ReportSettings) (piece : Piece) → settings.color ≡ false → is_output piece ≡ false
    → IsLineOf ArePlain (piece_bytes settings piece)
piece-plain settings rule off e = line-plain settings.color _ off
piece-plain settings (words style word said) off e = line-plain settings.color _ off
piece-plain settings (warning said) off e = line-plain settings.color _ off
piece-plain settings (note spans) off e = line-plain settings.color _ off
piece-plain settings (script line) off e = line-plain settings.color _ off
piece-plain settings (test line) off e = line-plain settings.color _ off
piece-plain settings (final line) off e = line-plain settings.color _ off
piece-plain settings (again line) off e = line-plain settings.color _ off
piece-plain settings (output block) off e = cc
piece-plain settings (output_again block) off e = cc
piece-plain settings (summary elapsed stats) off e = line-plain settings.color _ off
piece-plain settings (counts elapsed stats running) off e = line-plain settings.color _ off
