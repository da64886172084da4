use Rattle.std.proofs.Common.{◌≡◌, drop}
use Rattle.std.specs.Option.{option_copied}
use Rattle.run_progress.specs.Settings.{first_setting}
use Rattle.run_progress.proofs.show.ShowTerminalProgress.from_settings.Given as goal

abbrev pub invariant-loop-setting : goal.invariant-loop-setting
invariant-loop-setting l =
    first_setting (option_copied l.env) l.supported (drop l.setting-index l.settings)
    ≡ first_setting (option_copied l.env) l.supported l.settings
