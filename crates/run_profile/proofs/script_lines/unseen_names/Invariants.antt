use Rattle.std.proofs.Common.{◌≡◌, ◌++◌}
use Rattle.toml.specs.View.{members_view}
use Rattle.run_profile.specs.ScriptOrder.{unseen_names}
use Rattle.run_profile.proofs.script_lines.unseen_names.Given as goal

abbrev pub invariant-loop-name : goal.invariant-loop-name
invariant-loop-name l =
    l.names ++ unseen_names l.seen (members_view l.name-iterator)
    ≡ unseen_names l.seen (members_view l.members.entries)
