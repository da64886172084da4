use Rattle.std.proofs.Common.{◌≡◌, [], length}
use Rattle.std.specs.List.{All}
use Rattle.run_audit.proofs.tests.none_due.Given as goal

abbrev pub invariant-loop : goal.invariant-loop
invariant-loop l = (length l.due.items ≡ l.counter) × All (λ queue. queue.items ≡ []) l.due.items
