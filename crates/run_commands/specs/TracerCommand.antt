-- What a tracer's command is, and why one is refused.
use Rattle.std.specs.Prelude.{ℕ, ◌≡◌, List, [], Option, Some, None, Result, Ok, Err, ⊤}
use Rattle.run_commands.specs.declared.errors.TracerCommandParseError.{TracerCommandParseError}
use Rattle.run_commands.specs.declared.errors.TracerCommandParseError.TheVariants as errors
use Rattle.run_commands.specs.Words.{HasWords, IsOpenQuote}

-- a quote isn't closed, or the text is in the grammar and has no words, or memory was refused
abbrev pub IsRefusedTracer : List ℕ → TracerCommandParseError → Type 0
IsRefusedTracer text (errors.ShellWordsParse place) = IsOpenQuote text place
IsRefusedTracer text errors.EmptyCommand = HasWords text []
IsRefusedTracer text errors.OutOfMemory = ⊤

-- where the grammar gives the text these words, this is the answer: they are the command's, or there are none,
-- or memory was refused
abbrev pub IsTracerAnswer : List (List ℕ) → Result (List (List ℕ)) TracerCommandParseError → Type 0
IsTracerAnswer words (Ok command) = command ≡ words
IsTracerAnswer words (Err (errors.ShellWordsParse place)) = ⊥
IsTracerAnswer words (Err errors.EmptyCommand) = words ≡ []
IsTracerAnswer words (Err errors.OutOfMemory) = ⊤

-- where these are the text's command words, this is the answer: they are the command's, or there are none, or memory
-- was refused
abbrev pub GivesTracer : Option (List (List ℕ)) → Result (List (List ℕ)) TracerCommandParseError → Type 0
GivesTracer words (Ok command) = words ≡ Some command
GivesTracer words (Err (errors.ShellWordsParse place)) = words ≡ None
GivesTracer words (Err errors.EmptyCommand) = words ≡ None
GivesTracer words (Err errors.OutOfMemory) = ⊤
