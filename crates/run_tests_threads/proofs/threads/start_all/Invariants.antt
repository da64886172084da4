use Rattle.std.proofs.Common.{◌≡◌}
use Rattle.std.specs.List.{All}
use Rattle.run_tests_threads.proofs.threads.start_all.Given as goal

abbrev pub invariant-loop : goal.invariant-loop
invariant-loop g l = All (λ s. (s.parts ≡ 1) × (s.amount ≡ 0)) l.shares.items
