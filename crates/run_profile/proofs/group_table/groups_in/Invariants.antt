use Rattle.std.proofs.Common.{◌≡◌}
use Rattle.toml.specs.View.{members_view}
use Rattle.run_profile.specs.Fields.{before}
use Rattle.run_profile.specs.Levels.{group_entries}
use Rattle.run_profile.proofs.group_table.groups_in.Given as goal

abbrev pub invariant-loop-name : goal.invariant-loop-name
invariant-loop-name l =
    before l.groups (group_entries l.path (members_view l.name-iterator))
    ≡ group_entries l.path (members_view l.members.entries)
