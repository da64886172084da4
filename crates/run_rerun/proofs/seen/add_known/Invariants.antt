use Rattle.std.proofs.Common.{◌≡◌, ◌||◌, ◌&&◌, take}
use Rattle.run_events.specs.declared.plan.TestInstanceId.{TestInstanceId}
use Rattle.run_rerun.specs.Outstanding.{has_id}
use Rattle.run_rerun.proofs.seen.add_known.Given as goal

abbrev pub invariant-loop-id : goal.invariant-loop-id
invariant-loop-id l = (q : TestInstanceId) → has_id l.set.keys q
    ≡ (has_id l.fn.set.keys q || (has_id (take l.id-index l.ids) q && has_id l.known.keys q))
