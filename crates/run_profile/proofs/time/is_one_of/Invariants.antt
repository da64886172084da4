use Rattle.std.proofs.Common.{◌≡◌, drop, map}
use Rattle.run_profile.specs.Time.{one_of}
use Rattle.run_profile.proofs.time.is_one_of.Given as goal

abbrev pub invariant-loop-name : goal.invariant-loop-name
invariant-loop-name l =
    one_of l.word (map (λ n. n.now) (drop l.name-index l.names)) ≡ one_of l.word (map (λ n. n.now) l.names)
