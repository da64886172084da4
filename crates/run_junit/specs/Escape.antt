-- Texts as they stand in a document of XML 1.0.
use Rattle.std.specs.Prelude.{ℕ, Bool, true, not, ◌||◌, ◌==◌, if◌then◌else◌, List, [], ◌∷◌, ◌++◌, length, codes}
use Rattle.std.specs.Prelude.{encode_utf8}
use Rattle.std.specs.Int.{is_in_range}
use Rattle.std.specs.Str.{chars}
use Rattle.std.specs.Str.Lossy.{utf8_lossy}
use Rattle.run_junit.specs.declared.escape.Place.{Place}
use Rattle.run_junit.specs.declared.escape.Place.TheVariants.{Attribute, Body}
use Rattle.run_junit.specs.declared.escape.Sequence.{Sequence}
use Rattle.run_junit.specs.declared.escape.Sequence.TheVariants.{Outside, Begun, Control, Command, CommandEnd}

-- whether a document may have a character
abbrev pub is_xml : ℕ → Bool
is_xml c = (c == 9) || ((c == 10) || ((c == 13) || (is_in_range 0x20 0xD7FF c || (is_in_range 0xE000 0xFFFD c
    || is_in_range 0x1_0000 0x10_FFFF c))))

-- what stands for a character that would be read as part of the form, between two tags and in an attribute
abbrev pub body_reference : ℕ → List ℕ
body_reference c = if c == 38 then codes "&amp;" else if c == 60 then codes "&lt;" else
    if c == 62 then codes "&gt;" else if c == 13 then codes "&#13;" else []

abbrev pub attribute_reference : ℕ → List ℕ
attribute_reference c = if c == 34 then codes "&quot;" else if c == 39 then codes "&apos;" else
    if c == 10 then codes "&#10;" else if c == 9 then codes "&#9;" else body_reference c

abbrev pub reference : Place → ℕ → List ℕ
reference Attribute c = attribute_reference c
reference Body c = body_reference c

-- a character that a document may have, in its place
abbrev pub placed_char : Place → ℕ → List ℕ
placed_char place c = if length (reference place c) == 0 then encode_utf8 c else reference place c

-- any character, in its place
abbrev pub char_in : Place → ℕ → List ℕ
char_in place c = if is_xml c then placed_char place c else []

-- how far an escape sequence of a terminal is behind one more character, by how far it was
abbrev pub after_outside : ℕ → Sequence
after_outside c = if c == 27 then Begun else Outside

abbrev pub behind_escape : ℕ → Sequence
behind_escape c = if c == 91 then Control else if c == 93 then Command else after_outside c

abbrev pub after_control : ℕ → Sequence
after_control c = if is_in_range 0x20 0x3F c then Control else after_outside c

abbrev pub after_command : ℕ → Sequence
after_command c = if (c == 7) || (c == 10) then Outside else if c == 27 then CommandEnd else Command

abbrev pub sequence_after : Sequence → ℕ → Sequence
sequence_after Outside c = after_outside c
sequence_after Begun c = behind_escape c
sequence_after Control c = after_control c
sequence_after Command c = after_command c
sequence_after CommandEnd c = behind_escape c

-- whether a character there is no part of the sequence
abbrev pub is_said : Sequence → ℕ → Bool
is_said Outside c = true
is_said Begun c = not (is_in_range 0x40 0x5F c)
is_said Control c = not (is_in_range 0x20 0x7E c)
is_said Command c = c == 10
is_said CommandEnd c = not (is_in_range 0x40 0x5F c)

-- a character, where an escape sequence is so far
abbrev pub char_shown : Place → Sequence → ℕ → List ℕ
char_shown place at c = if is_said at c then char_in place c else []

-- characters in their place
abbrev pub shown_chars : Place → Sequence → List ℕ → List ℕ
shown_chars place at [] = []
shown_chars place at (c ∷ cs) = char_shown place at c ++ shown_chars place (sequence_after at c) cs

-- how far an escape sequence is behind them
abbrev pub after_all : Sequence → List ℕ → Sequence
after_all at [] = at
after_all at (c ∷ cs) = after_all (sequence_after at c) cs

-- a text as the value of an attribute
unfoldable pub attribute_text : List ℕ → List ℕ
attribute_text text = shown_chars Attribute Outside (chars text)

-- bytes between two tags; those that are no UTF-8 as U+FFFD
unfoldable pub body_text : List ℕ → List ℕ
body_text bytes = shown_chars Body Outside (chars (utf8_lossy bytes))
