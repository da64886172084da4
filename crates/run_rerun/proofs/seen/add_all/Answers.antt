use Rattle.std.proofs.Common.{◌≡◌, cond, true, subst}
use Rattle.std.specs.BTreeMap.{is_at}
use Rattle.std.specs.BTreeSet.{contains}
use Rattle.run_events.specs.declared.plan.TestInstanceId.{TestInstanceId}
use Rattle.run_model.specs.Reruns.{id_order}
use Rattle.run_rerun.specs.Outstanding.{has_id}
use Rattle.run_rerun.proofs.ShardLemmas.{added_next}
use Rattle.run_rerun.proofs.seen.add_all.Goals as goal

pub loop-id-preserved : goal.loop-id-preserved
loop-id-preserved c = λ q.
    let old = c.loop-id.set in
    let new = c.insert.new.self in
    added_next c.args.ids.now c.loop-id.id-index c.id-item.result q (has_id c.args.set.now.keys q) old new
    c.loop-id-test.true c.id-item.is (c.loop-id.invariant q)
    (subst (λ (k : TestInstanceId). contains id_order new q
    ≡ cond (is_at (id_order k) q) true (contains id_order old q))
    c.in_ok-copy.ensures (c.in_ok-insert.ensures.updates.0 q))
