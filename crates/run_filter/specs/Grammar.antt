-- What filter a text reads as, or what is wrong with it and where.
--
--   filter    = term, and after each sign of `or` a term
--   term      = operand, and after each sign of `and` an operand
--   operand   = a sign of `not` and an operand, or `(` filter `)`, or a predicate
--   predicate = name `(` text `)`
--
-- Each reading takes what is left of the text, and gives what it read and what is left then; or a fault, and the text
-- from its place on.
use Rattle.std.specs.Prelude.{ℕ, zero, suc, ◌-◌, ◌≡◌, ◌≤◌, Bool, true, false, ◌||◌, List, [], ◌∷◌}
use Rattle.std.specs.Prelude.{◌++◌, Option, Some, None, Result, Ok, Err, nat_eq, length, drop, take, ◌==◌}
use Rattle.std.specs.Prelude.{encode_utf8, if◌then◌else◌}
use Rattle.std.specs.Str.{chars}
use Rattle.std.specs.Str.Lossy.{utf8_lossy}
use Rattle.run_filter.specs.declared.facts.Subject.{Subject}
use Rattle.run_filter.specs.declared.fault.FilterFault.{FilterFault}
use Rattle.run_filter.specs.declared.fault.FilterFault.TheVariants as faults
use Rattle.run_filter.specs.declared.fault.FilterError.{FilterError}
use Rattle.run_filter.specs.declared.fault.FilterError.TheVariants as errors
use Rattle.run_filter.specs.declared.bits.Bit.{Bit}
use Rattle.run_filter.specs.declared.bits.Said.{Said}
use Rattle.run_filter.specs.declared.bits.Said.TheVariants.{Byte, Escape, Char}
use Rattle.run_filter.specs.declared.signs.Sign.{Sign}
use Rattle.run_filter.specs.declared.signs.Sign.TheVariants as signs
use Rattle.run_filter.specs.declared.signs.Meaning.{Meaning}
use Rattle.run_filter.specs.declared.signs.Meaning.TheVariants as meanings
use Rattle.run_filter.specs.declared.filter.Matcher.{Matcher}
use Rattle.run_filter.specs.declared.filter.Matcher.TheVariants as matchers
use Rattle.run_filter.specs.declared.filter.Filter.{Filter}
use Rattle.run_filter.specs.declared.glob.Glob.{Glob}
use Rattle.run_filter.specs.Tree.{Tree, all, nothing, default, is, negation, both, either, tree_of}
use Rattle.run_filter.specs.Signs.{skip, or_sign, and_sign, not_sign, name_len, meaning_of, sign_of}
use Rattle.run_filter.specs.GlobText.{glob_of}
use Rattle.run_filter.specs.Escapes.{numbered_char}

-- what is left of a text, and how long the whole text is
pub record Left : Type 0 where
  pub bytes : List ℕ
  pub whole : ℕ

-- a fault, and the text from its place on
abbrev pub Wrong : Type 0
Wrong = FilterFault × List ℕ

abbrev pub TreeRead : Type 0
TreeRead = Result (Tree × Left) Wrong

abbrev pub past_spaces : Left → Left
past_spaces l = record l { bytes = skip l.bytes }

abbrev pub past : ℕ → Left → Left
past n l = record l { bytes = drop n l.bytes }

-- a reading after another, of what that left
abbrev pub and_then : TreeRead → (Tree → Left → TreeRead) → TreeRead
and_then (Ok r) f = f r.0 r.1
and_then (Err e) f = Err e

-- whether a text begins with `(`, and with `)`
abbrev pub opens : List ℕ → Bool
opens [] = false
opens (b ∷ bs) = b == 40

abbrev pub closes : List ℕ → Bool
closes [] = false
closes (b ∷ bs) = b == 41

-- what was read, if a `)` follows it
unfoldable pub closed : Tree → Left → TreeRead
closed t l =
    if closes (skip l.bytes) then Ok (t, past 1 (past_spaces l)) else Err (faults.ExpectedClose, skip l.bytes)

-- ---- the texts of predicates

-- a bit: what it says, and how many bytes of the text say it
abbrev pub BitRead : Type 0
BitRead = Result (Option Bit) FilterFault

abbrev pub byte_bit : ℕ → ℕ → BitRead
byte_bit byte taken = Ok (Some (record { said = Byte byte; taken = taken }))

-- the bytes of what is said
abbrev pub said_bytes : Said → List ℕ
said_bytes (Byte b) = b ∷ []
said_bytes (Escape b) = 92 ∷ b ∷ []
said_bytes (Char c) = encode_utf8 c

abbrev pub bit_bytes : Bit → List ℕ
bit_bytes bit = said_bytes bit.said

-- the byte that is written as `\` and this one
unfoldable pub escaped_byte : ℕ → Option ℕ
escaped_byte c =
    if c == 110 then Some 10
    else if c == 114 then Some 13
    else if c == 116 then Some 9
    else if c == 92 || c == 47 || c == 40 || c == 41 || c == 44 then Some c
    else None

-- after a `\`, a byte or a character by its number: a glob has escapes of its own, and keeps the `\` of those
abbrev pub after_escape : Bool → Option ℕ → Option (ℕ × ℕ) → BitRead
after_escape in_glob (Some b) r = byte_bit b 2
after_escape in_glob None (Some r) = Ok (Some (record { said = Char r.0; taken = r.1 }))
after_escape true None None = byte_bit 92 1
after_escape false None None = Err faults.UnknownEscape

abbrev pub escape_bit : Bool → List ℕ → BitRead
escape_bit in_glob [] = Err faults.UnknownEscape
escape_bit in_glob (c ∷ cs) = after_escape in_glob (escaped_byte c) (numbered_char (c ∷ cs))

abbrev pub plain_bit : Bool → List ℕ → BitRead
plain_bit in_glob [] = Err faults.ExpectedClose
plain_bit in_glob (b ∷ bs) =
    if b == 44 then Err faults.Comma
    else if b == 92 then escape_bit in_glob bs
    else byte_bit b 1

-- a plain text and a glob end at a bare `)` and the spaces before it
unfoldable pub text_bit : Bool → List ℕ → BitRead
text_bit in_glob text = if closes (skip text) then Ok None else plain_bit in_glob text

-- in a regex only `\/` is an escape of the filter
abbrev pub regex_escape : List ℕ → BitRead
regex_escape [] = Err faults.OpenRegex
regex_escape (c ∷ cs) = if c == 47 then byte_bit 47 2 else Ok (Some (record { said = Escape c; taken = 2 }))

-- a regex ends at a bare `/`
unfoldable pub regex_bit : List ℕ → BitRead
regex_bit [] = Err faults.OpenRegex
regex_bit (b ∷ bs) =
    if b == 47 then Ok None
    else if b == 92 then regex_escape bs
    else byte_bit b 1

unfoldable pub bit_of : Sign → List ℕ → BitRead
bit_of signs.Contains text = text_bit false text
bit_of signs.Equals text = text_bit false text
bit_of signs.Glob text = text_bit true text
bit_of signs.Regex text = regex_bit text

-- the bytes that a text stands for, and what is left from its end on
abbrev pub TextRead : Type 0
TextRead = Result (List ℕ × List ℕ) Wrong

abbrev pub with_front : List ℕ → TextRead → TextRead
with_front front (Ok r) = Ok (front ++ r.0, r.1)
with_front front (Err e) = Err e

-- a bit, and then the others of the text
abbrev pub text_step : (List ℕ → TextRead) → List ℕ → BitRead → TextRead
text_step others text (Err f) = Err (f, text)
text_step others text (Ok None) = Ok ([], text)
text_step others text (Ok (Some bit)) = with_front (bit_bytes bit) (others (drop bit.taken text))

-- what is wrong with a text that doesn't end
abbrev pub unended_fault : Sign → FilterFault
unended_fault signs.Regex = faults.OpenRegex
unended_fault _ = faults.ExpectedClose

-- the text, of no more bits than this
unfoldable pub text_of : ℕ → Sign → List ℕ → TextRead
text_of zero sign text = Err (unended_fault sign, text)
text_of (suc n) sign text = text_step (text_of n sign) text (bit_of sign text)

-- ---- predicates

-- the matcher that a sign and a text make
abbrev pub glob_matcher : Option Glob → Result Matcher FilterFault
glob_matcher None = Err faults.BadGlob
glob_matcher (Some glob) = Ok (matchers.Glob glob)

abbrev pub matcher_of : Sign → List ℕ → ℕ → Result Matcher FilterFault
matcher_of signs.Contains text place = Ok (matchers.Contains text)
matcher_of signs.Equals text place = Ok (matchers.Equals text)
matcher_of signs.Glob text place = glob_matcher (glob_of (chars text))
matcher_of signs.Regex text place = Ok (matchers.Regex place text)

-- where the text begins after its sign: spaces before a regex are its own
abbrev pub text_start : Sign → List ℕ → List ℕ
text_start signs.Contains text = skip text
text_start signs.Equals text = skip text
text_start signs.Glob text = skip text
text_start signs.Regex text = text

-- what is left after a text, and after the `/` at the end of a regex
abbrev pub after_text : Sign → List ℕ → List ℕ
after_text signs.Contains text = text
after_text signs.Equals text = text
after_text signs.Glob text = text
after_text signs.Regex text = drop 1 text

abbrev pub with_matcher : Subject → List ℕ → Left → Result Matcher FilterFault → TreeRead
with_matcher subject start l (Err f) = Err (f, start)
with_matcher subject start l (Ok matcher) = closed (is subject matcher) l

abbrev pub with_text : Subject → Sign → List ℕ → Left → TextRead → TreeRead
with_text subject sign start l (Err e) = Err e
with_text subject sign start l (Ok r) =
    with_matcher subject start (record l { bytes = after_text sign r.1 })
    (matcher_of sign (utf8_lossy r.0) (l.whole - length start))

abbrev pub signed_text : Subject → Left → Sign × ℕ → TreeRead
signed_text subject l sign =
    let start = text_start sign.0 (drop sign.1 l.bytes) in
    with_text subject sign.0 start l (text_of (length start) sign.0 start)

-- what a predicate asks for, up to its `)`
unfoldable pub asked_for : Subject → Sign → Left → TreeRead
asked_for subject usual l = signed_text subject l (sign_of usual l.bytes)

abbrev pub named : Meaning → List ℕ → Left → TreeRead
named meanings.All name l = closed all l
named meanings.Nothing name l = closed nothing l
named meanings.Default name l = closed default l
named (meanings.Asks subject usual) name l = asked_for subject usual l
named meanings.Graph name l = Err (faults.NeedsGraph, name)
named meanings.Unknown name l = Err (faults.UnknownFilter, name)

abbrev pub opened : Meaning → Left → Left → TreeRead
opened meaning l after =
    if opens after.bytes then named meaning l.bytes (past_spaces (past 1 after)) else Err
    (faults.ExpectedOpen, after.bytes)

unfoldable pub predicate : Left → TreeRead
predicate l =
    if nat_eq (name_len l.bytes) 0 then Err (faults.ExpectedFilter, l.bytes)
    else opened (meaning_of (take (name_len l.bytes) l.bytes)) l (past_spaces (past (name_len l.bytes) l))

-- ---- operators: each takes how an operand is read

-- the operands after a tree and the signs of `and` before them, of which there are no more than this: `a - b` is
-- `a & !b`
abbrev pub joined : Bool → Tree → Tree → Tree
joined true t u = both t (negation u)
joined false t u = both t u

abbrev pub and_step : (Left → TreeRead) → (Tree → Left → TreeRead) → Tree → Left → Result
    (Option (ℕ × Bool)) FilterFault → TreeRead
and_step operand others t l (Err f) = Err (f, l.bytes)
and_step operand others t l (Ok None) = Ok (t, l)
and_step operand others t l (Ok (Some sign)) =
    and_then (operand (past sign.0 l)) (λ u m. others (joined sign.1 t u) m)

unfoldable pub and_chain : (Left → TreeRead) → ℕ → Tree → Left → TreeRead
and_chain operand zero t l = Ok (t, l)
and_chain operand (suc n) t l =
    and_step operand (and_chain operand n) t (past_spaces l) (and_sign (skip l.bytes))

unfoldable pub term : (Left → TreeRead) → Left → TreeRead
term operand l = and_then (operand l) (λ t m. and_chain operand (length m.bytes) t m)

-- the same of `or`, between terms
abbrev pub or_step : (Left → TreeRead) → (Tree → Left → TreeRead) → Tree → Left → Result (Option ℕ) FilterFault
    → TreeRead
or_step operand others t l (Err f) = Err (f, l.bytes)
or_step operand others t l (Ok None) = Ok (t, l)
or_step operand others t l (Ok (Some n)) = and_then (term operand (past n l)) (λ u m. others (either t u) m)

unfoldable pub or_chain : (Left → TreeRead) → ℕ → Tree → Left → TreeRead
or_chain operand zero t l = Ok (t, l)
or_chain operand (suc n) t l = or_step operand (or_chain operand n) t (past_spaces l) (or_sign (skip l.bytes))

unfoldable pub filter : (Left → TreeRead) → Left → TreeRead
filter operand l = and_then (term operand l) (λ t m. or_chain operand (length m.bytes) t m)

-- an operand, where those within it are read so
abbrev pub after_not : (Left → TreeRead) → Left → Result (Option ℕ) FilterFault → TreeRead
after_not inner l (Err f) = Err (f, l.bytes)
after_not inner l (Ok (Some n)) = and_then (inner (past n l)) (λ t m. Ok (negation t, m))
after_not inner l (Ok None) = if opens l.bytes then and_then (filter inner (past 1 l)) closed else predicate l

-- an operand with operands within it, no deeper than this
unfoldable pub operand : ℕ → Left → TreeRead
operand zero l = Err (faults.TooDeep, l.bytes)
operand (suc n) l = after_not (operand n) (past_spaces l) (not_sign (skip l.bytes))

-- a whole text: nothing but spaces follows the filter
abbrev pub read_to_end : TreeRead → Result Tree Wrong
read_to_end (Err e) = Err e
read_to_end (Ok r) = if nat_eq (length (skip r.1.bytes)) 0 then Ok r.0 else Err (faults.ExpectedEnd, skip r.1.bytes)

unfoldable pub filter_of : List ℕ → Result Tree Wrong
filter_of text = read_to_end (filter (operand 65) (record { bytes = text; whole = length text }))

-- what reading a text answers: its filter, or what is wrong and at which byte; want of memory says nothing
abbrev pub IsFilterOf : List ℕ → Result Filter FilterError → Type 0
IsFilterOf text (Ok f) = filter_of text ≡ Ok (tree_of f)
IsFilterOf text (Err (errors.Wrong place fault)) = (filter_of text ≡ Err (fault, drop place text)) ×
    (place ≤ length text)
IsFilterOf text (Err errors.OutOfMemory) = Unit {0}
