-- No text is read as the form of a document, and all its characters are of XML 1.0.
use Rattle.std.proofs.Common.{◌≡◌, ℕ, zero, suc, ◌<◌, ◌==◌, Bool, true, false, not, ◌&&◌, if◌then◌else◌}
use Rattle.std.proofs.Common.{nat_lt, List, [], ◌∷◌, ◌++◌, length, refl, ap, ◌∙◌, subst, arith, append-nil, codes}
use Rattle.std.proofs.Math.Utf8.{encode, encodes}
use Rattle.std.proofs.lemmas.Bool.Decides.{nat_tests}
use Rattle.std.proofs.lemmas.List.Folds.{list_all-append}
use Rattle.std.proofs.lemmas.Str.{encode_ascii, encodes-append}
use Rattle.std.specs.List.{flat_map, list_all}
use Rattle.std.specs.Str.{chars}
use Rattle.std.specs.Str.Lossy.{utf8_lossy}
use lib.Dec.{ltb}
use Rattle.run_junit.specs.declared.escape.Place.{Place}
use Rattle.run_junit.specs.declared.escape.Place.TheVariants as places
use Rattle.run_junit.specs.declared.escape.Sequence.{Sequence}
use Rattle.run_junit.specs.declared.escape.Sequence.TheVariants.{Outside}
use Rattle.run_junit.specs.declared.tag.Key.{Key}
use Rattle.run_junit.specs.declared.tag.Key.TheVariants as keys
use Rattle.run_junit.specs.declared.tag.Tag.{Tag}
use Rattle.run_junit.specs.declared.tag.Tag.TheVariants as tags
use Rattle.run_junit.specs.Escape.{sequence_after, attribute_reference, attribute_text, body_reference, body_text}
use Rattle.run_junit.specs.Escape.{char_in}
use Rattle.run_junit.specs.Escape.{is_said, is_xml, placed_char, reference, char_shown, shown_chars}
use Rattle.run_junit.specs.Laws.{HasNone, IsEscapedIn, IsXmlText, NoTextIsForm, itself, nothing, referred}
use Rattle.run_junit.specs.Tokens.{Attribute, Token, attribute_bytes, attributes_bytes, declaration, end, key_name}
use Rattle.run_junit.specs.Tokens.{line}
use Rattle.run_junit.specs.Tokens.{new_line_bytes, start, tag_name, token_bytes, tokens_bytes, written}

empty_is : (xs : List ℕ) → (length xs == 0) ≡ true → xs ≡ []
empty_is [] e = refl
empty_is (x ∷ xs) e = absurd (grind (arith, nat_tests))

-- made of references and of characters that stand for themselves
placed_escaped : (place : Place) (c : ℕ) (rest : List ℕ) (empty : Bool) → (length (reference place c) == 0) ≡ empty
    → IsEscapedIn place rest
    → IsEscapedIn place ((if empty then encode c else reference place c) ++ rest)
placed_escaped place c rest true e is = itself c rest (empty_is (reference place c) e) is
placed_escaped place c rest false e is = referred c rest is

escaped_if : (place : Place) (b : Bool) (xs rest : List ℕ) → IsEscapedIn place (xs ++ rest) → IsEscapedIn place rest
    → IsEscapedIn place ((if b then xs else []) ++ rest)
escaped_if place true xs rest is off = is
escaped_if place false xs rest is off = off

chars_escaped : (place : Place) (at : Sequence) (cs : List ℕ) → IsEscapedIn place (shown_chars place at cs)
chars_escaped place at [] = nothing
chars_escaped place at (c ∷ cs) =
    let rest = shown_chars place (sequence_after at c) cs in
    let later = chars_escaped place (sequence_after at c) cs in
    escaped_if place (is_said at c) (char_in place c) rest
    (escaped_if place (is_xml c) (placed_char place c) rest
    (placed_escaped place c rest (length (reference place c) == 0) refl later) later) later

attribute_escaped : (text : List ℕ) → IsEscapedIn places.Attribute (attribute_text text)
unfolding attribute_text
attribute_escaped text = chars_escaped places.Attribute Outside (chars text)

body_escaped : (bytes : List ℕ) → IsEscapedIn places.Body (body_text bytes)
unfolding body_text
body_escaped bytes = chars_escaped places.Body Outside (chars (utf8_lossy bytes))

-- bytes without a byte
none_nil : (byte : ℕ) → HasNone byte []
none_nil byte = record { none = refl }

none_append : (byte : ℕ) (xs ys : List ℕ) → HasNone byte xs → HasNone byte ys → HasNone byte (xs ++ ys)
none_append byte xs ys p q = record {
  none = list_all-append (λ b. not (b == byte)) xs ys
      ∙ ap (λ b. b && list_all (λ b. not (b == byte)) ys) p.none ∙ q.none;
}

none_if : (byte : ℕ) (b : Bool) (xs ys : List ℕ) → (b ≡ true → HasNone byte xs) → (b ≡ false → HasNone byte ys)
    → HasNone byte (if b then xs else ys)
none_if byte true xs ys p q = p refl
none_if byte false xs ys p q = q refl

other_is : (byte b : ℕ) → byte < b → not (b == byte) ≡ true
other_is byte b above = grind (arith, nat_tests)

above_none : (byte b : ℕ) (bs : List ℕ) → byte < b → HasNone byte bs → HasNone byte (b ∷ bs)
above_none byte b bs above rest = record {
  none = ap (λ (t : Bool). t && list_all (λ b. not (b == byte)) bs) (other_is byte b above) ∙ rest.none;
}

other_none : (byte c : ℕ) → (c == byte) ≡ false → HasNone byte (c ∷ [])
other_none byte c off = record { none = ap (λ (t : Bool). not t && true) off }

-- bytes that are all greater
abbrev AreAbove : ℕ → List ℕ → Type 0
AreAbove byte [] = Unit {0}
AreAbove byte (b ∷ bs) = (byte < b) × AreAbove byte bs

above_all : (byte : ℕ) (bs : List ℕ) → AreAbove byte bs → HasNone byte bs
above_all byte [] all = none_nil byte
above_all byte (b ∷ bs) all = above_none byte b bs all.0 (above_all byte bs all.1)

-- the bytes of another character
encode_none : (byte c : ℕ) → byte < 128 → (c == byte) ≡ false → HasNone byte (encode c)
unfolding encode
encode_none byte c small off =
    none_if byte (ltb c 128) _ _ (λ _. other_none byte c off) (λ _.
    none_if byte (ltb c 2048) _ _ (λ _. above_all byte _ (omega arith, (omega arith, tt))) (λ _.
    none_if byte (ltb c 65536) _ _ (λ _. above_all byte _ (omega arith, (omega arith, (omega arith, tt))))
    (λ _. above_all byte _ (omega arith, (omega arith, (omega arith, (omega arith, tt)))))))

-- the references have no such byte
body_none : (c : ℕ) → HasNone 60 (body_reference c)
body_none c = none_if 60 (c == 38) _ _ (λ _. record { none = refl })
    (λ _. none_if 60 (c == 60) _ _ (λ _. record { none = refl })
    (λ _. none_if 60 (c == 62) _ _ (λ _. record { none = refl })
    (λ _. none_if 60 (c == 13) _ _ (λ _. record { none = refl }) (λ _. none_nil 60))))

body_none_quote : (c : ℕ) → HasNone 34 (body_reference c)
body_none_quote c = none_if 34 (c == 38) _ _ (λ _. record { none = refl })
    (λ _. none_if 34 (c == 60) _ _ (λ _. record { none = refl })
    (λ _. none_if 34 (c == 62) _ _ (λ _. record { none = refl })
    (λ _. none_if 34 (c == 13) _ _ (λ _. record { none = refl }) (λ _. none_nil 34))))

attribute_none : (c : ℕ) → HasNone 60 (attribute_reference c)
attribute_none c = none_if 60 (c == 34) _ _ (λ _. record { none = refl })
    (λ _. none_if 60 (c == 39) _ _ (λ _. record { none = refl })
    (λ _. none_if 60 (c == 10) _ _ (λ _. record { none = refl })
    (λ _. none_if 60 (c == 9) _ _ (λ _. record { none = refl }) (λ _. body_none c))))

attribute_none_quote : (c : ℕ) → HasNone 34 (attribute_reference c)
attribute_none_quote c = none_if 34 (c == 34) _ _ (λ _. record { none = refl })
    (λ _. none_if 34 (c == 39) _ _ (λ _. record { none = refl })
    (λ _. none_if 34 (c == 10) _ _ (λ _. record { none = refl })
    (λ _. none_if 34 (c == 9) _ _ (λ _. record { none = refl }) (λ _. body_none_quote c))))

-- a byte that has a reference doesn't stand for itself
record Refers (place : Place) (byte : ℕ) : Type 0 where
  small : byte < 128
  own : (length (reference place byte) == 0) ≡ false
  none : (c : ℕ) → HasNone byte (reference place c)

not_itself : (place : Place) (byte c : ℕ) (same : Bool) → Refers place byte → (c == byte) ≡ same
    → (length (reference place c) == 0) ≡ true → (c == byte) ≡ false
not_itself place byte c false r is e = is
not_itself place byte c true r is e =
    let same : c ≡ byte = grind (arith, nat_tests) in
    let off = r.own in
    let on : (length (reference place byte) == 0) ≡ true =
    subst (λ (n : ℕ). (length (reference place n) == 0) ≡ true) same e in
    cc

placed_none : (place : Place) (byte c : ℕ) → Refers place byte → HasNone byte (placed_char place c)
placed_none place byte c r = none_if byte (length (reference place c) == 0) _ _
    (λ e. encode_none byte c r.small (not_itself place byte c (c == byte) r refl e)) (λ _. r.none c)

chars_none : (place : Place) (byte : ℕ) (at : Sequence) (cs : List ℕ) → Refers place byte
    → HasNone byte (shown_chars place at cs)
chars_none place byte at [] r = none_nil byte
chars_none place byte at (c ∷ cs) r =
    none_append byte (char_shown place at c) (shown_chars place (sequence_after at c) cs)
    (none_if byte (is_said at c) (char_in place c) [] (λ _. none_if byte (is_xml c) (placed_char place c) []
    (λ _. placed_none place byte c r) (λ _. none_nil byte)) (λ _. none_nil byte))
    (chars_none place byte (sequence_after at c) cs r)

body_refers : Refers places.Body 60
body_refers = record { small = omega arith; own = refl; none = body_none }

attribute_refers : Refers places.Attribute 60
attribute_refers = record { small = omega arith; own = refl; none = attribute_none }

quote_refers : Refers places.Attribute 34
quote_refers = record { small = omega arith; own = refl; none = attribute_none_quote }

no_tag : (text : List ℕ) → HasNone 60 (attribute_text text) × HasNone 60 (body_text text)
unfolding attribute_text body_text
no_tag text = (
  chars_none places.Attribute 60 Outside (chars text) attribute_refers,
  chars_none places.Body 60 Outside (chars (utf8_lossy text)) body_refers,
)

no_quote : (text : List ℕ) → HasNone 34 (attribute_text text)
unfolding attribute_text
no_quote text = chars_none places.Attribute 34 Outside (chars text) quote_refers

-- bytes of characters of XML 1.0
xml_append : (xs ys : List ℕ) → IsXmlText xs → IsXmlText ys → IsXmlText (xs ++ ys)
xml_append xs ys p q = (
  p.0 ++ q.0,
  encodes-append p.0 q.0 ∙ ap (λ bytes. bytes ++ encodes q.0) p.1 ∙ ap (λ bytes. xs ++ bytes) q.1,
  list_all-append is_xml p.0 q.0 ∙ ap (λ b. b && list_all is_xml q.0) p.2 ∙ q.2,
)

xml_nil : IsXmlText []
xml_nil = ([], refl, refl)

first_true : (a b : Bool) → (a && b) ≡ true → a ≡ true
first_true true b e = refl
first_true false b e = cc

second_true : (a b : Bool) → (a && b) ≡ true → b ≡ true
second_true true b e = e
second_true false b e = cc

ascii_encodes : (bs : List ℕ) → list_all (λ b. nat_lt b 128) bs ≡ true → encodes bs ≡ bs
ascii_encodes [] e = refl
ascii_encodes (b ∷ bs) e =
    let is : nat_lt b 128 ≡ true = first_true (nat_lt b 128) (list_all (λ b. nat_lt b 128) bs) e in
    let small : b < 128 = grind (arith, nat_tests) in
    ap (λ bytes. bytes ++ encodes bs) (encode_ascii b small)
    ∙ ap (λ bytes. b ∷ bytes) (ascii_encodes bs (second_true (nat_lt b 128) (list_all (λ b. nat_lt b 128) bs) e))

-- bytes of ASCII
form_xml : (bs : List ℕ) → list_all (λ b. nat_lt b 128) bs ≡ true → list_all is_xml bs ≡ true → IsXmlText bs
form_xml bs ascii is = (bs, ascii_encodes bs ascii, is)

xml_if : (b : Bool) (xs ys : List ℕ) → (b ≡ true → IsXmlText xs) → IsXmlText ys → IsXmlText (if b then xs else ys)
xml_if true xs ys p q = p refl
xml_if false xs ys p q = q

body_xml : (c : ℕ) → IsXmlText (body_reference c)
body_xml c = xml_if (c == 38) _ _ (λ _. form_xml _ refl refl) (xml_if (c == 60) _ _ (λ _. form_xml _ refl refl)
    (xml_if (c == 62) _ _ (λ _. form_xml _ refl refl) (xml_if (c == 13) _ _ (λ _. form_xml _ refl refl) xml_nil)))

reference_xml : (place : Place) (c : ℕ) → IsXmlText (reference place c)
reference_xml places.Body c = body_xml c
reference_xml places.Attribute c =
    xml_if (c == 34) _ _ (λ _. form_xml _ refl refl) (xml_if (c == 39) _ _ (λ _. form_xml _ refl refl)
    (xml_if (c == 10) _ _ (λ _. form_xml _ refl refl) (xml_if (c == 9) _ _ (λ _. form_xml _ refl refl) (body_xml c))))

both_true : (a : Bool) → a ≡ true → (a && true) ≡ true
both_true true e = refl
both_true false e = cc

chars_xml : (place : Place) (at : Sequence) (cs : List ℕ) → IsXmlText (shown_chars place at cs)
chars_xml place at [] = xml_nil
chars_xml place at (c ∷ cs) =
    xml_append (char_shown place at c) (shown_chars place (sequence_after at c) cs)
    (xml_if (is_said at c) (char_in place c) [] (λ _. xml_if (is_xml c) (placed_char place c) []
    (λ is. xml_if (length (reference place c) == 0) (encode c) (reference place c)
    (λ _. (c ∷ [], append-nil (encode c), both_true (is_xml c) is)) (reference_xml place c)) xml_nil) xml_nil)
    (chars_xml place (sequence_after at c) cs)

text_xml : (text : List ℕ) → IsXmlText (attribute_text text)
unfolding attribute_text
text_xml text = chars_xml places.Attribute Outside (chars text)

written_xml : (bytes : List ℕ) → IsXmlText (body_text bytes)
unfolding body_text
written_xml bytes = chars_xml places.Body Outside (chars (utf8_lossy bytes))

tag_xml : (tag : Tag) → IsXmlText (tag_name tag)
tag_xml tags.TestSuites = form_xml _ refl refl
tag_xml tags.TestSuite = form_xml _ refl refl
tag_xml tags.TestCase = form_xml _ refl refl
tag_xml tags.Properties = form_xml _ refl refl
tag_xml tags.Property = form_xml _ refl refl
tag_xml tags.Failure = form_xml _ refl refl
tag_xml tags.Error = form_xml _ refl refl
tag_xml tags.FlakyFailure = form_xml _ refl refl
tag_xml tags.FlakyError = form_xml _ refl refl
tag_xml tags.RerunFailure = form_xml _ refl refl
tag_xml tags.RerunError = form_xml _ refl refl
tag_xml tags.SystemOut = form_xml _ refl refl
tag_xml tags.SystemErr = form_xml _ refl refl

key_xml : (key : Key) → IsXmlText (key_name key)
key_xml keys.Name = form_xml _ refl refl
key_xml keys.ClassName = form_xml _ refl refl
key_xml keys.Tests = form_xml _ refl refl
key_xml keys.Failures = form_xml _ refl refl
key_xml keys.Errors = form_xml _ refl refl
key_xml keys.Disabled = form_xml _ refl refl
key_xml keys.Uuid = form_xml _ refl refl
key_xml keys.Timestamp = form_xml _ refl refl
key_xml keys.Time = form_xml _ refl refl
key_xml keys.Message = form_xml _ refl refl
key_xml keys.Type = form_xml _ refl refl
key_xml keys.Value = form_xml _ refl refl

attribute_xml : (said : Attribute) → IsXmlText (attribute_bytes said)
attribute_xml said =
    xml_append (codes " ") _ (form_xml _ refl refl)
    (xml_append (key_name said.0) _ (key_xml said.0)
    (xml_append (codes "=\"") _ (form_xml _ refl refl)
    (xml_append (attribute_text said.1) (codes "\"") (text_xml said.1) (form_xml _ refl refl))))

flat_xml : {X : Type 0} (f : X → List ℕ) (xs : List X) → ((x : X) → IsXmlText (f x)) → IsXmlText (flat_map f xs)
flat_xml f [] each = xml_nil
flat_xml f (x ∷ xs) each = xml_append (f x) (flat_map f xs) (each x) (flat_xml f xs each)

attributes_xml : (said : List Attribute) → IsXmlText (attributes_bytes said)
unfolding attributes_bytes
attributes_xml said = flat_xml attribute_bytes said attribute_xml

line_xml : (depth : ℕ) → IsXmlText (new_line_bytes depth)
line_xml zero = form_xml _ refl refl
line_xml (suc depth) = xml_append (new_line_bytes depth) (codes "    ") (line_xml depth) (form_xml _ refl refl)

token_xml : (token : Token) → IsXmlText (token_bytes token)
token_xml declaration = form_xml _ refl refl
token_xml (line depth) = line_xml depth
token_xml (start tag said) =
    xml_append (codes "<") _ (form_xml _ refl refl)
    (xml_append (tag_name tag) _ (tag_xml tag)
    (xml_append (attributes_bytes said) (codes ">") (attributes_xml said) (form_xml _ refl refl)))
token_xml (end tag) =
    xml_append (codes "</") _ (form_xml _ refl refl)
    (xml_append (tag_name tag) (codes ">") (tag_xml tag) (form_xml _ refl refl))
token_xml (written bytes) = written_xml bytes

tokens_xml : (tokens : List Token) → IsXmlText (tokens_bytes tokens)
unfolding tokens_bytes
tokens_xml tokens = flat_xml token_bytes tokens token_xml

pub no_text_is_form : NoTextIsForm
no_text_is_form = record {
  attribute = attribute_escaped;
  body = body_escaped;
  no_tag = no_tag;
  no_quote = no_quote;
  xml = tokens_xml;
}
