use Rattle.std.proofs.Common.{◌≡◌, [], drop}
use Rattle.run_audit.specs.Told.{scripts_all}
use Rattle.run_audit.proofs.scripts.scripts_due.Given as goal

abbrev pub invariant-loop-event : goal.invariant-loop-event
invariant-loop-event l = scripts_all l.stress l.parts.items l.due.items (drop l.event-index l.told)
    ≡ scripts_all l.stress [] [] l.told
