use Rattle.std.proofs.Common.{◌≡◌, ◌+◌, drop}
use Rattle.run_audit_machines.specs.Accounts.{count_items}
use Rattle.run_audit_passes.proofs.test_part.count.Given as goal

abbrev pub invariant-loop-queue : goal.invariant-loop-queue
invariant-loop-queue g l =
    l.count + count_items (λ q. q.items) (drop l.queue-index l.due) ≡ count_items (λ q. q.items) l.due
