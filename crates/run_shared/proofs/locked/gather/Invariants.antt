use Rattle.std.proofs.Common.{◌≡◌, ◌+◌}
use Rattle.std.specs.List.{sum_by}
use Rattle.run_shared.proofs.locked.gather.Given as goal

abbrev pub invariant-loop-share : goal.invariant-loop-share
invariant-loop-share g l =
    (l.all.parts ≡ l.initial.all.parts + sum_by (λ s. s.parts) l.yielded)
    × (l.all.amount ≡ l.initial.all.amount + sum_by (λ s. s.amount) l.yielded)
