use Rattle.std.proofs.Common.{◌≡◌, drop}
use Rattle.toml.specs.View.{items_view}
use Rattle.run_profile.specs.Fields.{before}
use Rattle.run_profile.specs.Levels.{overrides_from}
use Rattle.run_profile.proofs.overrides.overrides_in.Given as goal

abbrev pub invariant-loop-item : goal.invariant-loop-item
invariant-loop-item l =
    (before l.overrides
    (overrides_from l.cfg l.groups l.profile l.path l.number (items_view (drop l.item-index l.items)))
    ≡ overrides_from l.cfg l.groups l.profile l.path 0 (items_view l.items)) × (l.number ≡ l.item-index)
