use Rattle.std.proofs.Common.{◌≡◌, drop}
use Rattle.toml.specs.View.{items_view}
use Rattle.run_profile.specs.Fields.{before}
use Rattle.run_profile.specs.Scripts.{scripts_named}
use Rattle.run_profile.proofs.script_rules.scripts_named.Given as goal

abbrev pub invariant-loop-item : goal.invariant-loop-item
invariant-loop-item l =
    (before l.names (scripts_named l.scripts l.path l.number (items_view (drop l.item-index l.items)))
    ≡ scripts_named l.scripts l.path 0 (items_view l.items)) × (l.number ≡ l.item-index)
