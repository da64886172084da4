use Rattle.std.proofs.Common.{◌≡◌, map, take}
use Rattle.run_audit_model.specs.Statuses.{due_status}
use Rattle.run_audit_passes.specs.Texts.{known_compared}
use Rattle.run_audit.proofs.tests.all_known.Given as goal

abbrev pub invariant-loop-status : goal.invariant-loop-status
invariant-loop-status l = map known_compared l.all.items ≡ map due_status (take l.status-index l.statuses)
