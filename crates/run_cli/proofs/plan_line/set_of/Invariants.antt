-- The tests that the set has are those that are left no longer.
use Rattle.std.proofs.Common.{◌≡◌, ◌++◌, List, length}
use Rattle.run_events.specs.declared.plan.TestInstanceId.{TestInstanceId}
use Rattle.run_cli.specs.Plans.{ascending}
use Rattle.run_cli.proofs.plan_line.set_of.Given as goal

abbrev pub invariant-loop-id : goal.invariant-loop-id
invariant-loop-id l = (done : List TestInstanceId) × (l.ids.items ++ done ≡ l.fn.ids) × (l.set.keys ≡ ascending done)

abbrev pub decreases-loop-id : goal.decreases-loop-id
decreases-loop-id l = length l.ids.items
