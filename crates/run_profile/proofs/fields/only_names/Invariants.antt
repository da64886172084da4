use Rattle.std.proofs.Common.{◌≡◌, map}
use Rattle.toml.specs.View.{members_view}
use Rattle.run_profile.specs.Fields.{only_names}
use Rattle.run_profile.proofs.fields.only_names.Given as goal

abbrev pub invariant-loop-key : goal.invariant-loop-key
invariant-loop-key l =
    only_names l.path (map (λ n. n.now) l.names) (members_view l.key-iterator)
    ≡ only_names l.path (map (λ n. n.now) l.names) (members_view l.members.entries)
