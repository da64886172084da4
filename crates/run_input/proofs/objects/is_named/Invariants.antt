use Rattle.std.proofs.Common.{◌≡◌, drop, map}
use Rattle.run_input.specs.Fields.{is_one_of}
use Rattle.run_input.proofs.objects.is_named.Given as goal

abbrev pub invariant-loop-name : goal.invariant-loop-name
invariant-loop-name l =
    is_one_of l.key (map (λ n. n.now) (drop l.name-index l.names)) ≡ is_one_of l.key (map (λ n. n.now) l.names)
