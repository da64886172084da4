use Rattle.std.proofs.Common.{IsUtf8, take}
use Rattle.std.specs.List.{All}
use Rattle.run_laws_audit.proofs.known.known_pairs.Given as goal

abbrev pub invariant-loop-pair : goal.invariant-loop-pair
invariant-loop-pair l = All (λ two. IsUtf8 two.0 × IsUtf8 two.1) (take l.pair-index l.pairs)
