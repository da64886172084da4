-- How many running tests are shown, as a text.
use Rattle.std.specs.Prelude.{ℕ, ◌≡◌, ◌<◌, ◌^◌, List, ◌++◌, map, codes, decimal}
use Rattle.std.specs.Char.{to_ascii_lowercase}
use Rattle.std.specs.Str.Parse.{IsNumeral, IsParseIntError, digits_value, without_leading_plus}
use Rattle.std.specs.declared.num.IntErrorKind.{IntErrorKind}
use Rattle.std.specs.declared.num.IntErrorKind.TheVariants as kinds
use Rattle.run_commands.specs.StressCount.{IsDecimal}
use Rattle.run_progress.specs.declared.max_running.MaxProgressRunning.{MaxProgressRunning}
use Rattle.run_progress.specs.declared.max_running.MaxProgressRunning.TheVariants.{Count, Infinite}
use Rattle.run_progress.specs.declared.max_running.MaxProgressError.{MaxProgressError}
use Rattle.run_progress.specs.declared.max_running.MaxProgressError.TheVariants.{Parse, OutOfMemory}

-- as it prints
abbrev pub max_text : MaxProgressRunning → List ℕ
max_text (Count n) = decimal n
max_text Infinite = codes "infinite"

-- the word `infinite`, in any case of its letters
abbrev pub SaysInfinite : List ℕ → Type 0
SaysInfinite text = map to_ascii_lowercase text ≡ codes "infinite"

-- what a text that is read says
abbrev pub SaysMax : List ℕ → MaxProgressRunning → Type 0
SaysMax text Infinite = SaysInfinite text
SaysMax text (Count n) = IsDecimal text n

-- neither the word nor a number that fits 64 bits
abbrev pub SaysNoMax : List ℕ → Type 0
SaysNoMax text = (¬ SaysInfinite text) × ((n : ℕ) → n < 2 ^ 64 → ¬ IsDecimal text n)

-- std's words for what is wrong with a text that is no number
abbrev pub error_words : IntErrorKind → List ℕ
error_words kinds.Empty = codes "cannot parse integer from empty string"
error_words kinds.InvalidDigit = codes "invalid digit found in string"
error_words kinds.PosOverflow = codes "number too large to fit in target type"
error_words kinds.NegOverflow = codes "number too small to fit in target type"
error_words kinds.Zero = codes "number would be zero for non-zero type"

-- the message for a text that says nothing: std's words for it, and the text
abbrev pub number_error_text : List ℕ → IntErrorKind → List ℕ
number_error_text text kind = codes "Error: " ++ (error_words kind ++ (codes " parsing " ++ text))

-- the error for a text with this wrong with it
abbrev pub Tells : List ℕ → IntErrorKind → MaxProgressError → Type 0
Tells text kind (Parse message) = message ≡ number_error_text text kind
Tells text kind OutOfMemory = Unit {0}

-- an error as it prints
abbrev pub error_message : MaxProgressError → List ℕ
error_message (Parse message) = message
error_message OutOfMemory = codes "out of memory"

-- this is the error's message, and its kind is what std finds wrong with the text
abbrev pub IsMessage : List ℕ → List ℕ → Type 0
IsMessage text message = (kind : IntErrorKind)
    × IsParseIntError 10 text (without_leading_plus text) kinds.PosOverflow kind
    × (message ≡ number_error_text text kind)

-- why a text is refused: it says nothing, and the message tells what is wrong with it
abbrev pub RefusesText : List ℕ → MaxProgressError → Type 0
RefusesText text (Parse message) = SaysNoMax text × IsMessage text message
RefusesText text OutOfMemory = Unit {0}
