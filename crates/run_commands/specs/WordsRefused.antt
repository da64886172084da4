-- Why a command has no words.
use Rattle.std.specs.Prelude.{ℕ, ◌≡◌, List, [], Option, Some, None, Result, Ok, Err, ⊤}
use Rattle.run_commands.specs.declared.words.words_error.WordsError.{WordsError}
use Rattle.run_commands.specs.declared.words.words_error.WordsError.TheVariants as errors
use Rattle.run_commands.specs.Words.{HasWords, IsOpenQuote}

-- a quote isn't closed, or the text is in the grammar and has no words
abbrev pub IsRefusedWords : List ℕ → WordsError → Type 0
IsRefusedWords text (errors.OpenQuote place) = IsOpenQuote text place
IsRefusedWords text errors.NoWords = HasWords text []
IsRefusedWords text errors.OutOfMemory = ⊤

-- where the grammar gives the text these words, this is the answer
abbrev pub IsWordsAnswer : List (List ℕ) → Result (List (List ℕ)) WordsError → Type 0
IsWordsAnswer words (Ok command) = command ≡ words
IsWordsAnswer words (Err (errors.OpenQuote place)) = ⊥
IsWordsAnswer words (Err errors.NoWords) = words ≡ []
IsWordsAnswer words (Err errors.OutOfMemory) = ⊤

-- where these are the text's command words, this is the answer
abbrev pub GivesWords : Option (List (List ℕ)) → Result (List (List ℕ)) WordsError → Type 0
GivesWords words (Ok command) = words ≡ Some command
GivesWords words (Err (errors.OpenQuote place)) = words ≡ None
GivesWords words (Err errors.NoWords) = words ≡ None
GivesWords words (Err errors.OutOfMemory) = ⊤
