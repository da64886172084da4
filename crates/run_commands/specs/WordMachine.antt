-- How the words of a text are read, byte by byte. A public clause speaks of it by `command_words` alone, which a law
-- ties to the grammar.
use Rattle.std.specs.Prelude.{ℕ, Bool, true, false, List, [], ◌∷◌, ◌++◌, None, Result, Ok, Err, suc, ◌≡◌, ⊤, is_some}
use Rattle.std.specs.Prelude.{encode_utf8, if◌then◌else◌}
use Rattle.run_commands.specs.declared.words.char_kind.CharKind.{CharKind}
use Rattle.run_commands.specs.declared.words.char_kind.CharKind.TheVariants as kinds
use Rattle.run_commands.specs.declared.words.machine.State.{State}
use Rattle.run_commands.specs.declared.words.machine.State.TheVariants as states
use Rattle.run_commands.specs.declared.words.words_error.WordsError.{WordsError}
use Rattle.run_commands.specs.declared.words.words_error.WordsError.TheVariants as errors
use Rattle.run_commands.specs.Gathered.{Gathered, word_so_far}
use Rattle.run_commands.specs.Words.{kind}

-- what came before: nothing that matters, in a word or not; a backslash of these bytes; the `#` of a comment;
-- a quote at this place, and then perhaps a backslash of these bytes
pub data Mode : Type 0 where
  outside : Bool → Mode
  escape : Bool → List ℕ → Mode
  comment : Mode
  single : ℕ → Mode
  double : ℕ → Mode
  double_escape : ℕ → List ℕ → Mode

-- what a character adds: nothing, bytes of the word, or the word's end
pub data Effect : Type 0 where
  pass : Effect
  add : List ℕ → Effect
  close : Effect

-- the mode after a character of these bytes at this place, and what it adds: outside quotes, in a word or not
abbrev pub step_outside : CharKind → Bool → ℕ → List ℕ → Mode × Effect
step_outside kinds.Space inside place bytes = (outside false, if inside then close else pass)
step_outside kinds.Newline inside place bytes = (outside false, if inside then close else pass)
step_outside kinds.Hash inside place bytes = if inside then (outside true, add bytes) else (comment, pass)
step_outside kinds.Backslash inside place bytes = (escape inside bytes, pass)
step_outside kinds.SingleQuote inside place bytes = (single place, pass)
step_outside kinds.DoubleQuote inside place bytes = (double place, pass)
step_outside kinds.Expansion inside place bytes = (outside true, add bytes)
step_outside kinds.Plain inside place bytes = (outside true, add bytes)

-- after a backslash outside quotes
abbrev pub step_escape : CharKind → Bool → List ℕ → Mode × Effect
step_escape kinds.Newline inside bytes = (outside inside, pass)
step_escape _ inside bytes = (outside true, add bytes)

-- in a comment
abbrev pub step_comment : CharKind → Mode × Effect
step_comment kinds.Newline = (outside false, pass)
step_comment _ = (comment, pass)

-- between single quotes
abbrev pub step_single : CharKind → ℕ → List ℕ → Mode × Effect
step_single kinds.SingleQuote quote bytes = (outside true, pass)
step_single _ quote bytes = (single quote, add bytes)

-- between double quotes
abbrev pub step_double : CharKind → ℕ → List ℕ → Mode × Effect
step_double kinds.DoubleQuote quote bytes = (outside true, pass)
step_double kinds.Backslash quote bytes = (double_escape quote bytes, pass)
step_double _ quote bytes = (double quote, add bytes)

-- after a backslash between double quotes
abbrev pub step_double_escape : CharKind → ℕ → List ℕ → List ℕ → Mode × Effect
step_double_escape kinds.Newline quote slash bytes = (double quote, pass)
step_double_escape kinds.Expansion quote slash bytes = (double quote, add bytes)
step_double_escape kinds.DoubleQuote quote slash bytes = (double quote, add bytes)
step_double_escape kinds.Backslash quote slash bytes = (double quote, add bytes)
step_double_escape _ quote slash bytes = (double quote, add (slash ++ bytes))

-- in any mode
abbrev pub step : Mode → ℕ → List ℕ → CharKind → Mode × Effect
step (outside inside) place bytes k = step_outside k inside place bytes
step (escape inside slash) place bytes k = step_escape k inside bytes
step comment place bytes k = step_comment k
step (single quote) place bytes k = step_single k quote bytes
step (double quote) place bytes k = step_double k quote bytes
step (double_escape quote slash) place bytes k = step_double_escape k quote slash bytes

-- the words, or the place of the open quote
abbrev pub Read : Type 0
Read = Result (List (List ℕ)) ℕ

-- a word of these bytes, where there are some
abbrev pub word_of : List ℕ → List (List ℕ)
word_of [] = []
word_of (b ∷ bytes) = (b ∷ bytes) ∷ []

-- bytes at the front of the first word
abbrev pub onto : List ℕ → List (List ℕ) → List (List ℕ)
onto bytes [] = word_of bytes
onto bytes (word ∷ words) = (bytes ++ word) ∷ words

-- what a character adds to the words after it
abbrev pub with_effect : Effect → List (List ℕ) → List (List ℕ)
with_effect pass words = words
with_effect (add bytes) words = onto bytes words
with_effect close words = [] ∷ words

-- the same, unless a quote is open
abbrev pub effects : Effect → Read → Read
effects effect (Ok words) = Ok (with_effect effect words)
effects effect (Err place) = Err place

-- what is read where the text ends
abbrev pub ending : Mode → Read
ending (outside false) = Ok []
ending (outside true) = Ok ([] ∷ [])
ending (escape inside slash) = Ok (slash ∷ [])
ending comment = Ok []
ending (single quote) = Err quote
ending (double quote) = Err quote
ending (double_escape quote slash) = Err quote

-- what is read from this place on
unfoldable pub reading : Mode → ℕ → List ℕ → Read
reading mode place [] = ending mode
reading mode place (b ∷ text) =
    let next = step mode place (b ∷ []) (kind b) in effects next.1 (reading next.0 (suc place) text)

-- the mode of a state, in a word or not
abbrev pub mode_of : State → Bool → Mode
mode_of states.Outside inside = outside inside
mode_of states.Escape inside = escape inside (92 ∷ [])
mode_of states.Comment inside = comment
mode_of (states.SingleQuotes quote) inside = single quote
mode_of (states.DoubleQuotes quote) inside = double quote
mode_of (states.DoubleQuotesEscape quote) inside = double_escape quote (92 ∷ [])

-- the words so far before those that are read
abbrev pub put : Gathered → Read → Read
put words (Err place) = Err place
put words (Ok more) = Ok (words.ended ++ (if is_some words.open_word then onto (word_so_far words.open_word) more
    else more))

-- no word is open in a comment
abbrev pub IsSound : State → Gathered → Type 0
IsSound states.Comment words = words.open_word ≡ None
IsSound _ words = ⊤

-- the step for this character at this place
abbrev pub step_for : State → Gathered → ℕ → ℕ → Mode × Effect
step_for state words place c = step (mode_of state (is_some words.open_word)) place (encode_utf8 c) (kind c)

-- the state and the words after a character at this place are those of the machine
pub record TakesChar (state next : State) (old new : Gathered) (place c : ℕ) : Type 0 where
  pub mode : mode_of next (is_some new.open_word) ≡ (step_for state old place c).0
  pub adds : (r : Read) → put new r ≡ put old (effects (step_for state old place c).1 r)
  pub sound : IsSound next new

-- what is read where the text ends
abbrev pub ended_by : State → Gathered → Read
ended_by state words = put words (ending (mode_of state (is_some words.open_word)))

-- the error of an open quote at the end
abbrev pub IsOpenAtEnd : Read → WordsError → Type 0
IsOpenAtEnd read (errors.OpenQuote place) = read ≡ Err place
IsOpenAtEnd read errors.NoWords = ⊥
IsOpenAtEnd read errors.OutOfMemory = ⊤
