-- What a debugger's command is, and why one is refused.
use Rattle.std.specs.Prelude.{ℕ, ◌≡◌, List, [], Option, Some, None, Result, Ok, Err, ⊤}
use Rattle.run_commands.specs.declared.errors.DebuggerCommandParseError.{DebuggerCommandParseError}
use Rattle.run_commands.specs.declared.errors.DebuggerCommandParseError.TheVariants as errors
use Rattle.run_commands.specs.Words.{HasWords, IsOpenQuote}

-- a quote isn't closed, or the text is in the grammar and has no words, or memory was refused
abbrev pub IsRefusedDebugger : List ℕ → DebuggerCommandParseError → Type 0
IsRefusedDebugger text (errors.ShellWordsParse place) = IsOpenQuote text place
IsRefusedDebugger text errors.EmptyCommand = HasWords text []
IsRefusedDebugger text errors.OutOfMemory = ⊤

-- where the grammar gives the text these words, this is the answer: they are the command's, or there are none,
-- or memory was refused
abbrev pub IsDebuggerAnswer : List (List ℕ) → Result (List (List ℕ)) DebuggerCommandParseError → Type 0
IsDebuggerAnswer words (Ok command) = command ≡ words
IsDebuggerAnswer words (Err (errors.ShellWordsParse place)) = ⊥
IsDebuggerAnswer words (Err errors.EmptyCommand) = words ≡ []
IsDebuggerAnswer words (Err errors.OutOfMemory) = ⊤

-- where these are the text's command words, this is the answer: they are the command's, or there are none, or memory
-- was refused
abbrev pub GivesDebugger : Option (List (List ℕ)) → Result (List (List ℕ)) DebuggerCommandParseError → Type 0
GivesDebugger words (Ok command) = words ≡ Some command
GivesDebugger words (Err (errors.ShellWordsParse place)) = words ≡ None
GivesDebugger words (Err errors.EmptyCommand) = words ≡ None
GivesDebugger words (Err errors.OutOfMemory) = ⊤
