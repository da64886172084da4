use Rattle.std.proofs.Common.{◌≡◌, [], drop}
use Rattle.run_audit.specs.Told.{cancels_all}
use Rattle.run_audit.proofs.due.cancels_due.Given as goal

abbrev pub invariant-loop-event : goal.invariant-loop-event
invariant-loop-event l = cancels_all l.stress l.parts.items l.due.items (drop l.event-index l.told)
    ≡ cancels_all l.stress [] [] l.told
