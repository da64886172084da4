use Rattle.std.proofs.Common.{◌≡◌, map, take}
use Rattle.run_events.specs.declared.plan.TestInstanceId.{TestInstanceId}
use Rattle.run_rerun.specs.Outstanding.{has_id, is_outstanding}
use Rattle.run_rerun.proofs.chain.outstanding.Given as goal

abbrev pub invariant-loop-run : goal.invariant-loop-run
invariant-loop-run l =
    (id : TestInstanceId) → has_id l.left.keys id
    ≡ is_outstanding (map (λ run. run.tests) (take l.run-index l.chain)) id
