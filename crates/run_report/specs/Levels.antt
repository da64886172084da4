-- Which lines and outputs a level shows.
use Rattle.std.specs.Prelude.{ℕ, Bool, true, false, not, nat_lt}
use Rattle.run_report.specs.declared.levels.StatusLevel.{StatusLevel}
use Rattle.run_report.specs.declared.levels.StatusLevel.TheVariants as levels
use Rattle.run_report.specs.declared.levels.FinalStatusLevel.{FinalStatusLevel}
use Rattle.run_report.specs.declared.levels.FinalStatusLevel.TheVariants as finals
use Rattle.run_report.specs.declared.levels.OutputDisplay.{OutputDisplay}
use Rattle.run_report.specs.declared.levels.OutputDisplay.TheVariants as displays

-- the order of levels
abbrev pub level_rank : StatusLevel → ℕ
level_rank levels.None = 0
level_rank levels.Fail = 1
level_rank levels.Retry = 2
level_rank levels.Slow = 3
level_rank levels.Leak = 4
level_rank levels.Pass = 5
level_rank levels.Skip = 6
level_rank levels.All = 7

-- whether a level shows a line of another
abbrev pub shows : StatusLevel → StatusLevel → Bool
shows level line = not (nat_lt (level_rank level) (level_rank line))

-- the order of levels at the end
abbrev pub final_rank : FinalStatusLevel → ℕ
final_rank finals.None = 0
final_rank finals.Fail = 1
final_rank finals.Flaky = 2
final_rank finals.Slow = 3
final_rank finals.Skip = 4
final_rank finals.Leak = 5
final_rank finals.Pass = 6
final_rank finals.All = 7

-- whether a level shows a finish of another again at the end
abbrev pub shows_at_end : FinalStatusLevel → FinalStatusLevel → Bool
shows_at_end level finish = not (nat_lt (final_rank level) (final_rank finish))

-- whether an output is shown behind the line of its finish
abbrev pub is_at_once : OutputDisplay → Bool
is_at_once displays.Immediate = true
is_at_once displays.ImmediateFinal = true
is_at_once displays.Final = false
is_at_once displays.Never = false

-- whether an output is shown at the end of its run or sub-run
abbrev pub is_at_end : OutputDisplay → Bool
is_at_end displays.Immediate = false
is_at_end displays.ImmediateFinal = true
is_at_end displays.Final = true
is_at_end displays.Never = false
