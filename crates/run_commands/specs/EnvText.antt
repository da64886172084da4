-- What the text of an environment file says, and why it is refused.
use Rattle.std.specs.Prelude.{ℕ, ◌≡◌, ◌+◌, List, ◌∷◌, ◌++◌, length, map, Some, None, Ok, Err, ⊤}
use Rattle.std.specs.Str.Lines.{lines}
use Rattle.run_commands.specs.declared.env_line.BrokenRule.{BrokenRule}
use Rattle.run_commands.specs.declared.env_line.BrokenRule.TheVariants as rule
use Rattle.run_commands.specs.declared.errors.SetupScriptOutputError.{SetupScriptOutputError}
use Rattle.run_commands.specs.declared.errors.SetupScriptOutputError.TheVariants as errors
use Rattle.run_commands.specs.Pair.{Pair}
use Rattle.run_commands.specs.EnvLine.{pair_of}
use Rattle.run_commands.specs.EnvMap.{IsLatest}

-- each line sets one of the pairs, in order
abbrev pub Set : List (List ℕ) → List Pair → Type 0
Set lines' pairs = map pair_of lines' ≡ map Ok pairs

-- the text's lines set pairs, and these are the latest of them by name
pub record IsEnvOf (bytes : List ℕ) (pairs : List Pair) : Type 0 where
  pub given : List Pair
  pub lines_set : Set (lines bytes) given
  pub latest : IsLatest given pairs

-- the line of this number, from 1, breaks this rule first, and each line before it sets a pair
pub record IsFirstBreach (lines' : List (List ℕ)) (broken : BrokenRule) (number : ℕ) : Type 0 where
  pub before : List (List ℕ)
  pub bad : List ℕ
  pub after : List (List ℕ)
  pub split : lines' ≡ before ++ bad ∷ after
  pub given : List Pair
  pub good : Set before given
  pub breaks : pair_of bad ≡ Err broken
  pub counted : number ≡ length before + 1

-- the error for a line of this number that breaks this rule
abbrev pub refusal_for : BrokenRule → ℕ → SetupScriptOutputError
refusal_for rule.Utf8 number = errors.EnvFileRead (Some number)
refusal_for rule.EqualsSign number = errors.EnvFileParse number
refusal_for rule.Key number = errors.EnvFileInvalidKey number

-- a text with these lines is refused for the first rule that its first bad line breaks, or for want of
-- memory
abbrev pub IsRefusedEnv : List (List ℕ) → SetupScriptOutputError → Type 0
IsRefusedEnv lines' (errors.EnvFileRead (Some number)) = IsFirstBreach lines' rule.Utf8 number
IsRefusedEnv lines' (errors.EnvFileRead None) = ⊥
IsRefusedEnv lines' (errors.EnvFileParse number) = IsFirstBreach lines' rule.EqualsSign number
IsRefusedEnv lines' (errors.EnvFileInvalidKey number) = IsFirstBreach lines' rule.Key number
IsRefusedEnv lines' errors.EnvFileTooLong = ⊥
IsRefusedEnv lines' errors.EnvFileOpen = ⊥
IsRefusedEnv lines' errors.OutOfMemory = ⊤

-- a text whose lines set pairs has no bad line
abbrev pub HasNoBadLine : Type 0
HasNoBadLine = (lines' : List (List ℕ)) (given : List Pair) (broken : BrokenRule) (number : ℕ)
    → Set lines' given → ¬ IsFirstBreach lines' broken number
