use Rattle.std.proofs.Common.{◌≡◌, ◌++◌, ◌∷◌, string_bytes, take}
use Rattle.std.specs.List.{flat_map}
use Rattle.run_junit.specs.Reasons.{error_said}
use Rattle.run_junit.proofs.reason.push_errors.Given as goal

abbrev pub invariant-loop-fault : goal.invariant-loop-fault
invariant-loop-fault l = string_bytes l.said ≡ string_bytes l.initial.said
    ++ flat_map (λ fault. 59 ∷ 32 ∷ error_said fault) (take l.fault-index l.later)
