use Rattle.std.proofs.Common.{◌≡◌, take, if◌then◌else◌, not}
use Rattle.run_events.specs.declared.plan.TestInstanceId.{TestInstanceId}
use Rattle.run_rerun.specs.Outstanding.{has_id}
use Rattle.run_rerun.proofs.chain.take_run.Given as goal

abbrev pub invariant-loop-id : goal.invariant-loop-id
invariant-loop-id l = (q : TestInstanceId) → has_id l.left.keys q
    ≡ (if has_id (take l.id-index l.run.has) q then not (has_id l.run.passed q) else has_id l.initial.left.keys q)
