-- What a word sets, by its name.
use Rattle.std.specs.Prelude.{ℕ, Bool, List, Option, Some, None, if◌then◌else◌, nat_eq, codes}
use Rattle.run_input.specs.TurnLine.{is_word}
use Rattle.run_plan.specs.declared.settings.FileSetting.{FileSetting}
use Rattle.run_plan.specs.declared.settings.FileSetting.TheVariants as files
use Rattle.run_plan.specs.declared.settings.PickSetting.{PickSetting}
use Rattle.run_plan.specs.declared.settings.PickSetting.TheVariants as picks
use Rattle.run_plan.specs.declared.settings.WaySetting.{WaySetting}
use Rattle.run_plan.specs.declared.settings.WaySetting.TheVariants as ways
use Rattle.run_plan.specs.declared.settings.Setting.{Setting}
use Rattle.run_plan.specs.declared.settings.Setting.TheVariants as settings
use Rattle.run_plan.specs.declared.settings.Flag.{Flag}
use Rattle.run_plan.specs.declared.settings.Flag.TheVariants as flags

-- the file that a name stands for
abbrev pub file_named : List ℕ → Option FileSetting
file_named name =
    if is_word name (codes "--list") then Some files.List
    else if is_word name (codes "--cfg") then Some files.Cfg
    else if is_word name (codes "--config") then Some files.Config
    else None

-- what a name says of which tests run
abbrev pub pick_named : List ℕ → Option PickSetting
pick_named name =
    if is_word name (codes "-E") then Some picks.Filter
    else if is_word name (codes "--filterset") then Some picks.Filter
    else if is_word name (codes "--skip") then Some picks.Skip
    else if is_word name (codes "--run-ignored") then Some picks.RunIgnored
    else if is_word name (codes "--partition") then Some picks.Partition
    else None

-- what a name says of how they run
abbrev pub way_named : List ℕ → Option WaySetting
way_named name =
    if is_word name (codes "-P") then Some ways.Profile
    else if is_word name (codes "--profile") then Some ways.Profile
    else if is_word name (codes "-j") then Some ways.Threads
    else if is_word name (codes "--test-threads") then Some ways.Threads
    else if is_word name (codes "--retries") then Some ways.Retries
    else if is_word name (codes "--flaky-result") then Some ways.Flaky
    else if is_word name (codes "--max-fail") then Some ways.MaxFail
    else if is_word name (codes "--stress-count") then Some ways.StressCount
    else if is_word name (codes "--stress-duration") then Some ways.StressDuration
    else None

-- what a value after a name is for
abbrev pub way_setting : Option WaySetting → Option Setting
way_setting None = None
way_setting (Some way) = Some (settings.Way way)

abbrev pub pick_setting : Option PickSetting → Option Setting → Option Setting
pick_setting None else_way = else_way
pick_setting (Some pick) else_way = Some (settings.Pick pick)

abbrev pub file_setting : Option FileSetting → Option Setting → Option Setting
file_setting None else_pick = else_pick
file_setting (Some file) else_pick = Some (settings.File file)

abbrev pub setting_named : List ℕ → Option Setting
setting_named name =
    file_setting (file_named name) (pick_setting (pick_named name) (way_setting (way_named name)))

-- what a name says with no value
abbrev pub flag_named : List ℕ → Option Flag
flag_named name =
    if is_word name (codes "--exact") then Some flags.Exact
    else if is_word name (codes "--ignore-default-filter") then Some flags.IgnoreDefaultFilter
    else if is_word name (codes "--no-fail-fast") then Some flags.NoFailFast
    else if is_word name (codes "--no-capture") then Some flags.NoCapture
    else None
