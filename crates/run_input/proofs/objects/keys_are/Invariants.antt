use Rattle.std.proofs.Common.{◌≡◌, map}
use Rattle.serde_json.specs.View.{members_view}
use Rattle.run_input.specs.Fields.{has_only}
use Rattle.run_input.proofs.objects.keys_are.Given as goal

abbrev pub invariant-loop-key : goal.invariant-loop-key
invariant-loop-key l =
    has_only (map (λ n. n.now) l.names) (members_view l.key-iterator)
    ≡ has_only (map (λ n. n.now) l.names) (members_view l.members.entries)
