use Rattle.std.proofs.Common.{◌≡◌, nat_lt, take}
use Rattle.run_events.specs.declared.plan.TestInstanceId.{TestInstanceId}
use Rattle.run_rerun.specs.Outstanding.{has_id}
use Rattle.run_rerun.specs.Shards.{shards_with}
use Rattle.run_rerun.proofs.seen.seen_in.Given as goal

abbrev pub invariant-loop-shard : goal.invariant-loop-shard
invariant-loop-shard l = record {
  once : (q : TestInstanceId) → has_id l.once.keys q ≡ nat_lt 0 (shards_with (take l.shard-index l.shards) q);
  more : (q : TestInstanceId) → has_id l.more.keys q ≡ nat_lt 1 (shards_with (take l.shard-index l.shards) q);
}
