use Rattle.std.proofs.Common.{◌≡◌}
use Rattle.toml.specs.View.{members_view}
use Rattle.run_profile.specs.Fields.{before}
use Rattle.run_profile.specs.Scripts.{script_entries}
use Rattle.run_profile.proofs.script_table.scripts_in.Given as goal

abbrev pub invariant-loop-name : goal.invariant-loop-name
invariant-loop-name l =
    before l.scripts (script_entries l.path (members_view l.name-iterator))
    ≡ script_entries l.path (members_view l.members.entries)
