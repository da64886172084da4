-- The words of a text that is a command: one of the grammar, with a word at least.
use Rattle.std.specs.Prelude.{ℕ, ◌≡◌, ◌≢◌, false, List, [], ◌∷◌, Option, Some, None, Ok, Err}
use Rattle.run_commands.specs.Words.{HasWords}
use Rattle.run_commands.specs.WordMachine.{Mode, Read, reading}

-- the words that are read, where there are some
abbrev pub some_words : Read → Option (List (List ℕ))
some_words (Ok []) = None
some_words (Ok (word ∷ words)) = Some (word ∷ words)
some_words (Err place) = None

-- the words of a command, and none where a text is no command; `AreCommandWords` says which these are
unfoldable pub command_words : List ℕ → Option (List (List ℕ))
command_words text = some_words (reading (Mode.outside false) 0 text)

-- they are words that the grammar gives the text, and there are some
pub record IsCommand (text : List ℕ) (words : List (List ℕ)) : Type 0 where
  pub read : HasWords text words
  pub some : words ≢ []

-- a text has command words exactly where the grammar gives it some, and has these
pub record AreCommandWords : Type 0 where
  pub sound : (text : List ℕ) (words : List (List ℕ)) → command_words text ≡ Some words → IsCommand text words
  pub whole : (text : List ℕ) (words : List (List ℕ)) → IsCommand text words → command_words text ≡ Some words
