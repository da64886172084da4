-- What comes of a script's environment file, as a function of what was read.
use Rattle.std.specs.Prelude.{ℕ, ◌≡◌, ◌⊎◌, ◌+◌, List, [], ◌∷◌, None, Result, Ok, Err}
use Rattle.std.specs.BTreeMap.{insert_entry}
use Rattle.std.specs.Cmp.Lexicographic.{slice_cmp}
use Rattle.std.specs.Ordering.{nat_cmp}
use Rattle.std.specs.Str.Lines.{lines}
use Rattle.run_commands.specs.declared.env_line.BrokenRule.{BrokenRule}
use Rattle.run_commands.specs.declared.errors.SetupScriptOutputError.{SetupScriptOutputError}
use Rattle.run_commands.specs.declared.errors.SetupScriptOutputError.TheVariants.{EnvFileOpen, EnvFileRead, OutOfMemory}
use Rattle.run_commands.specs.declared.script_helpers.EnvInput.{EnvInput}
use Rattle.run_commands.specs.declared.script_helpers.EnvInput.TheVariants.{Bytes, OpenFailed, ReadFailed}
use Rattle.run_commands.specs.Pair.{Pair}
use Rattle.run_commands.specs.EnvLine.{pair_of}
use Rattle.run_commands.specs.EnvText.{IsEnvOf, IsRefusedEnv, refusal_for}

-- the pairs with one more, by name: of one name the later stands
abbrev pub set_pair : List Pair → Pair → List Pair
set_pair pairs pair = insert_entry (slice_cmp nat_cmp) pairs pair.0 pair.1

-- after these pairs: what a line of this number sets, and then what comes after it; or the error of a bad line
abbrev pub set_by : ℕ → List Pair → Result Pair BrokenRule
    → (List Pair → Result (List Pair) SetupScriptOutputError) → Result (List Pair) SetupScriptOutputError
set_by number pairs (Ok pair) after = after (set_pair pairs pair)
set_by number pairs (Err broken) after = Err (refusal_for broken number)

-- what lines set after these pairs, the first of which has this number
abbrev pub env_from : ℕ → List Pair → List (List ℕ) → Result (List Pair) SetupScriptOutputError
env_from number pairs [] = Ok pairs
env_from number pairs (line ∷ lines') = set_by number pairs (pair_of line) (λ more. env_from (number + 1) more lines')

-- what comes of a script's environment file: the pairs of its text by name, the error of its first bad line, or that it
-- could not be opened or read
unfoldable pub env_given : EnvInput → Result (List Pair) SetupScriptOutputError
env_given (Bytes bytes) = env_from 1 [] (lines bytes)
env_given OpenFailed = Err EnvFileOpen
env_given ReadFailed = Err (EnvFileRead None)

-- a result is what comes of a file, unless memory was short
abbrev pub IsGiven : EnvInput → Result (List Pair) SetupScriptOutputError → Type 0
IsGiven input result = (result ≡ Err OutOfMemory) ⊎ (result ≡ env_given input)

-- the same of a file's bytes
abbrev pub IsTextGiven : List ℕ → Result (List Pair) SetupScriptOutputError → Type 0
IsTextGiven bytes result = (result ≡ Err OutOfMemory) ⊎ (result ≡ env_from 1 [] (lines bytes))

-- the pairs that bytes give are those that they say, and the error that they give is one that they are refused for
pub record IsGivenOneWay : Type 0 where
  pub pairs : (bytes : List ℕ) (pairs : List Pair) → env_given (Bytes bytes) ≡ Ok pairs → IsEnvOf bytes pairs
  pub refused : (bytes : List ℕ) (error : SetupScriptOutputError) → env_given (Bytes bytes) ≡ Err error
      → IsRefusedEnv (lines bytes) error
