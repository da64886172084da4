-- Whether a terminal's own progress is shown.
use Rattle.std.specs.Prelude.{ℕ, Bool, true, false, if◌then◌else◌, List, [], ◌∷◌, Option, None, Some, unwrap_or}
use Rattle.std.specs.Prelude.{option_and_then, codes}
use Rattle.std.specs.Str.{bytes_eq}
use Rattle.run_progress.specs.declared.show.TermSetting.{TermSetting}
use Rattle.run_progress.specs.declared.show.TermSetting.TheVariants.{CliOption, Env, File}
use Rattle.run_progress.specs.declared.show.ShowTerminalProgress.{ShowTerminalProgress}
use Rattle.run_progress.specs.declared.show.ShowTerminalProgress.TheVariants.{Yes, No}

-- what a variable's text says: `true`, `false`, or nothing
abbrev pub said_truth : List ℕ → Option Bool
said_truth text = if bytes_eq text (codes "true") then Some true
    else if bytes_eq text (codes "false") then Some false else None

-- the value of a setting, where it has one
abbrev pub setting_value : Option (List ℕ) → TermSetting → Option Bool
setting_value env (CliOption value) = value
setting_value env Env = option_and_then said_truth env
setting_value env (File value) = value

-- the value of the first setting that has one, or else whether the terminal supports it
abbrev pub first_setting : Option (List ℕ) → Bool → List TermSetting → Bool
first_setting env supported [] = supported
first_setting env supported (setting ∷ rest) = unwrap_or (setting_value env setting) (first_setting env supported rest)

abbrev pub shown_where : Bool → ShowTerminalProgress
shown_where true = Yes
shown_where false = No
