-- Parts of lines, each in its style, with no character that a terminal would act on.
use Rattle.std.specs.Prelude.{ℕ, Bool, true, false, ◌||◌, ◌==◌, if◌then◌else◌, List, [], ◌∷◌, ◌++◌, codes, encode_utf8}
use Rattle.std.specs.Fmt.{digits}
use Rattle.std.specs.Char.{is_control}
use Rattle.std.specs.Int.{is_in_range}
use Rattle.std.specs.List.{flat_map}
use Rattle.std.specs.Str.{chars}
use Rattle.run_report.specs.declared.style.Style.{Style}
use Rattle.run_report.specs.declared.style.Style.TheVariants as styles

-- a control character, one that ends a line, or one that turns the direction of a text
abbrev pub acts : ℕ → Bool
acts c = is_control c || (is_in_range 0x2028 0x202e c || is_in_range 0x2066 0x2069 c)

-- the number of a character, as Rust's literals have it
abbrev pub escaped_number : ℕ → List ℕ
escaped_number c = codes "\\u{" ++ (digits 16 false c ++ codes "}")

-- a character that acts, as Rust's literals have it
abbrev pub escape_of : ℕ → List ℕ
escape_of c = if c == 10 then codes "\\n" else if c == 13 then codes "\\r" else if c == 9 then codes "\\t"
    else escaped_number c

-- a character as it is shown
abbrev pub shown_char : ℕ → List ℕ
shown_char c = if acts c then escape_of c else encode_utf8 c

-- a text as it is shown
unfoldable pub shown_text : List ℕ → List ℕ
shown_text text = flat_map shown_char (chars text)

-- what turns a style on, behind the escape character
abbrev pub style_code : Style → List ℕ
style_code styles.Plain = codes "[0m"
style_code styles.Bold = codes "[1m"
style_code styles.Green = codes "[32;1m"
style_code styles.Yellow = codes "[33;1m"
style_code styles.Red = codes "[31;1m"
style_code styles.Magenta = codes "[35;1m"
style_code styles.Cyan = codes "[36;1m"

-- a text in a style, where colours are on
abbrev pub painted : Style → List ℕ → List ℕ
painted styles.Plain text = text
painted style text = 27 ∷ (style_code style ++ (text ++ (27 ∷ codes "[0m")))

-- a part of a line
abbrev pub Span : Type 0
Span = Style × List ℕ

-- a part as it is shown, with colours or without
abbrev pub span_bytes : Bool → Span → List ℕ
span_bytes true span = painted span.0 (shown_text span.1)
span_bytes false span = shown_text span.1

-- parts as they are shown
unfoldable pub spans_bytes : Bool → List Span → List ℕ
spans_bytes color spans = flat_map (span_bytes color) spans

-- a line
abbrev pub line_shown : Bool → List Span → List ℕ
line_shown color spans = spans_bytes color spans ++ (10 ∷ [])
