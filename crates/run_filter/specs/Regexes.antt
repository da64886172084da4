-- Why a pattern is refused.
use Rattle.std.specs.Prelude.{ℕ, ◌≡◌, List}
use Rattle.regex.specs.Patterns.{default_config}
use Rattle.regex.specs.Failures.{IsPattern}
use Rattle.run_filter.specs.declared.fault.FilterError.{FilterError}
use Rattle.run_filter.specs.declared.fault.FilterError.TheVariants.{Wrong, OutOfMemory}
use Rattle.run_filter.specs.declared.fault.FilterFault.{FilterFault}
use Rattle.run_filter.specs.declared.fault.FilterFault.TheVariants.{BadRegex, LargeRegex}

-- the grammar of regexes doesn't read a pattern, or it does and what it reads was too large
abbrev pub IsPatternFault : List ℕ → FilterFault → Type 0
IsPatternFault pattern BadRegex = IsPattern default_config pattern → ⊥
IsPatternFault pattern LargeRegex = IsPattern default_config pattern
IsPatternFault pattern _ = ⊥

-- a pattern at a place is refused; want of memory says nothing
abbrev pub IsPatternRefused : List ℕ → ℕ → FilterError → Type 0
IsPatternRefused pattern place (Wrong at fault) = (at ≡ place) × IsPatternFault pattern fault
IsPatternRefused pattern place OutOfMemory = Unit {0}
