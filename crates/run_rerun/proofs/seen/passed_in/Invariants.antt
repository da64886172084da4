use Rattle.std.proofs.Common.{◌≡◌, take}
use Rattle.run_events.specs.declared.plan.TestInstanceId.{TestInstanceId}
use Rattle.run_rerun.specs.Outstanding.{has_id}
use Rattle.run_rerun.specs.Shards.{passed_once}
use Rattle.run_rerun.proofs.seen.passed_in.Given as goal

abbrev pub invariant-loop-shard : goal.invariant-loop-shard
invariant-loop-shard l =
    (q : TestInstanceId) → has_id l.set.keys q ≡ passed_once (take l.shard-index l.shards) q
