-- The grammar of command words, by rules on the bytes. A text stands between words or in one, and each rule is a
-- way in which it goes on.
use Rattle.std.specs.Prelude.{ℕ, ◌≡◌, ◌≢◌, ◌==◌, ◌||◌, ◌<◌, ◌≤◌, Bool, true, false, List, [], ◌∷◌, ◌++◌, length, take}
use Rattle.std.specs.Prelude.{slice_get, IsSomeAnd, ⊤, if◌then◌else◌}
use Rattle.std.specs.List.{AllByRecursion}
use Rattle.run_commands.specs.declared.words.char_kind.CharKind.{CharKind}
use Rattle.run_commands.specs.declared.words.char_kind.CharKind.TheVariants as kinds

-- what a byte means to the grammar
abbrev pub kind : ℕ → CharKind
kind byte =
    if byte == 32 || byte == 9 then kinds.Space
    else if byte == 10 then kinds.Newline
    else if byte == 35 then kinds.Hash
    else if byte == 92 then kinds.Backslash
    else if byte == 39 then kinds.SingleQuote
    else if byte == 34 then kinds.DoubleQuote
    else if byte == 36 || byte == 96 then kinds.Expansion
    else kinds.Plain

-- it ends a word
abbrev pub IsBlank : CharKind → Type 0
IsBlank kinds.Space = ⊤
IsBlank kinds.Newline = ⊤
IsBlank _ = ⊥

-- it stands for itself in a word, outside quotes
abbrev pub IsPlainInWord : CharKind → Type 0
IsPlainInWord kinds.Hash = ⊤
IsPlainInWord kinds.Expansion = ⊤
IsPlainInWord kinds.Plain = ⊤
IsPlainInWord _ = ⊥

-- it stands for itself between double quotes
abbrev pub IsPlainInQuotes : CharKind → Type 0
IsPlainInQuotes kinds.Backslash = ⊥
IsPlainInQuotes kinds.DoubleQuote = ⊥
IsPlainInQuotes _ = ⊤

-- a backslash before it goes, between double quotes
abbrev pub IsEscaped : CharKind → Type 0
IsEscaped kinds.Backslash = ⊤
IsEscaped kinds.DoubleQuote = ⊤
IsEscaped kinds.Expansion = ⊤
IsEscaped _ = ⊥

-- a backslash before it stays, between double quotes
abbrev pub KeepsBackslash : CharKind → Type 0
KeepsBackslash kinds.Space = ⊤
KeepsBackslash kinds.Hash = ⊤
KeepsBackslash kinds.SingleQuote = ⊤
KeepsBackslash kinds.Plain = ⊤
KeepsBackslash _ = ⊥

-- no byte is of this kind
abbrev pub Lacks : CharKind → List ℕ → Type 0
Lacks k bytes = AllByRecursion (λ b. kind b ≢ k) bytes

-- what stands between double quotes, and the bytes that it means
pub data IsQuoted : List ℕ → List ℕ → Type 0 where
  -- nothing more
  nothing : IsQuoted [] []
  -- a byte for itself
  plain : {b : ℕ} {source meaning : List ℕ} → IsPlainInQuotes (kind b) → IsQuoted source meaning
      → IsQuoted (b ∷ source) (b ∷ meaning)
  -- a backslash before `$`, a backquote, `"` or a backslash gives that one
  escaped : {b c : ℕ} {source meaning : List ℕ} → kind b ≡ kinds.Backslash → IsEscaped (kind c)
      → IsQuoted source meaning → IsQuoted (b ∷ c ∷ source) (c ∷ meaning)
  -- a backslash and an LF are nothing
  joined : {b c : ℕ} {source meaning : List ℕ} → kind b ≡ kinds.Backslash → kind c ≡ kinds.Newline
      → IsQuoted source meaning → IsQuoted (b ∷ c ∷ source) meaning
  -- a backslash before any other stands for itself, and so does the other
  kept : {b c : ℕ} {source meaning : List ℕ} → kind b ≡ kinds.Backslash → KeepsBackslash (kind c)
      → IsQuoted source meaning → IsQuoted (b ∷ c ∷ source) (b ∷ c ∷ meaning)

-- a part of a word, and the bytes that it means
pub data IsPiece : List ℕ → List ℕ → Type 0 where
  -- a byte for itself
  plain : {b : ℕ} → IsPlainInWord (kind b) → IsPiece (b ∷ []) (b ∷ [])
  -- a backslash makes the next byte plain
  escaped : {b c : ℕ} → kind b ≡ kinds.Backslash → kind c ≢ kinds.Newline → IsPiece (b ∷ c ∷ []) (c ∷ [])
  -- between two single quotes all is plain
  single_quoted : {b : ℕ} (inner : List ℕ) (c : ℕ) → kind b ≡ kinds.SingleQuote → Lacks kinds.SingleQuote inner
      → kind c ≡ kinds.SingleQuote
      → IsPiece (b ∷ inner ++ c ∷ []) inner
  -- between two double quotes stands what the rules above give
  double_quoted : {b : ℕ} {inner meaning : List ℕ} (c : ℕ) → kind b ≡ kinds.DoubleQuote → IsQuoted inner meaning
      → kind c ≡ kinds.DoubleQuote
      → IsPiece (b ∷ inner ++ c ∷ []) meaning

-- a piece may stand here: a word doesn't begin with `#`
abbrev pub MayStand : Bool → List ℕ → Type 0
MayStand true source = ⊤
MayStand false [] = ⊥
MayStand false (b ∷ source) = kind b ≢ kinds.Hash

-- a comment ends before this text: at the end, or at an LF
abbrev pub EndsComment : List ℕ → Type 0
EndsComment [] = ⊤
EndsComment (b ∷ text) = kind b ≡ kinds.Newline

-- What a text says that stands between words (false), or in a word (true), whose rest is then the first of
-- the words.
pub data Reads : Bool → List ℕ → List (List ℕ) → Type 0 where
  -- the end
  end : Reads false [] []
  end_of_word : Reads true [] ([] ∷ [])
  -- a blank
  blank : {b : ℕ} {text : List ℕ} {words : List (List ℕ)} → IsBlank (kind b) → Reads false text words
      → Reads false (b ∷ text) words
  blank_after_word : {b : ℕ} {text : List ℕ} {words : List (List ℕ)} → IsBlank (kind b) → Reads false text words
      → Reads true (b ∷ text) ([] ∷ words)
  -- a comment, up to an LF or the end
  comment : {b : ℕ} (remark : List ℕ) {text : List ℕ} {words : List (List ℕ)} → kind b ≡ kinds.Hash
      → Lacks kinds.Newline remark → EndsComment text
      → Reads false text words → Reads false (b ∷ remark ++ text) words
  -- a backslash and an LF are nothing
  joined : {inside : Bool} {b c : ℕ} {text : List ℕ} {words : List (List ℕ)} → kind b ≡ kinds.Backslash
      → kind c ≡ kinds.Newline
      → Reads inside text words → Reads inside (b ∷ c ∷ text) words
  -- a backslash at the end is itself
  last : {inside : Bool} {b : ℕ} → kind b ≡ kinds.Backslash → Reads inside (b ∷ []) ((b ∷ []) ∷ [])
  -- a piece of a word
  piece : {inside : Bool} {source meaning text word : List ℕ} {words : List (List ℕ)} → IsPiece source meaning
      → MayStand inside source
      → Reads true text (word ∷ words) → Reads inside (source ++ text) ((meaning ++ word) ∷ words)

-- the text is in the grammar, and has these words
abbrev pub HasWords : List ℕ → List (List ℕ) → Type 0
HasWords text words = Reads false text words

-- it is a quote
abbrev pub IsQuote : CharKind → Type 0
IsQuote kinds.SingleQuote = ⊤
IsQuote kinds.DoubleQuote = ⊤
IsQuote _ = ⊥

-- a quote at this place isn't closed: the text before it is in the grammar, and no longer front of the text is
pub record IsOpenQuote (text : List ℕ) (place : ℕ) : Type 0 where
  pub quote : IsSomeAnd (slice_get text place) (λ b. IsQuote (kind b))
  pub before : List (List ℕ)
  pub front : HasWords (take place text) before
  pub longest : (n : ℕ) (words : List (List ℕ)) → place < n → n ≤ length text → ¬ HasWords (take n text) words

-- a text has no two lists of words
abbrev pub HasOneReading : Type 0
HasOneReading = (text : List ℕ) (words others : List (List ℕ)) → HasWords text words → HasWords text others
    → words ≡ others
