use Rattle.std.proofs.Common.{◌≡◌, drop, length}
use Rattle.run_audit.specs.Told.{accounts_all, accounts_by_part, no_accounts}
use Rattle.run_audit.proofs.tests.tests_due.Given as goal

abbrev pub invariant-loop-event : goal.invariant-loop-event
invariant-loop-event l = record {
  told : accounts_all (λ queue. queue.items) l.needs.stress l.needs.places l.parts.items l.due.items
      (drop l.event-index l.told)
      ≡ accounts_by_part l.needs.stress l.needs.places (no_accounts l.needs.places) l.told;
  many : length l.needs.places ≡ length l.due.items;
}
