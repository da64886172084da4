use Rattle.std.proofs.Common.{◌≡◌, ◌∙◌, cond, true, false, ap, sym, subst}
use Rattle.std.specs.BTreeMap.{is_at}
use Rattle.std.specs.BTreeSet.{BTreeSet, contains}
use Rattle.run_events.specs.declared.plan.TestInstanceId.{TestInstanceId}
use Rattle.run_model.specs.Reruns.{id_order}
use Rattle.run_rerun.specs.Outstanding.{has_id}
use Rattle.run_rerun.proofs.OutstandingLemmas.{has-among}
use Rattle.run_rerun.proofs.ShardLemmas.{known_next, unknown_next}
use Rattle.run_rerun.proofs.seen.add_known.Goals as goal
use Rattle.run_rerun.proofs.seen.add_known.Goals.{then-contains+in_ok-copy+in_ok-insert, else-contains}

pub loop-id-preserved : goal.loop-id-preserved
loop-id-preserved c = λ q.
    let ids = c.args.ids.now in
    let known = c.args.known.now in
    let i = c.loop-id.id-index in
    let id = c.id-item.result in
    let start = has_id c.args.set.now.keys q in
    let old = c.loop-id.set in
    let has = sym (has-among known id) ∙ sym c.contains.ensures in
    elim c.if-contains.branch [
      | then-contains+in_ok-copy+in_ok-insert w ↦
          let new = w.insert.new.self in
          ap (λ (s : BTreeSet TestInstanceId). has_id s.keys q) w.set-is
          ∙ known_next ids known.keys i id q start old new c.loop-id-test.true c.id-item.is (has ∙ w.if-contains.true)
          (c.loop-id.invariant q)
          (subst (λ (k : TestInstanceId). contains id_order new q
          ≡ cond (is_at (id_order k) q) true (contains id_order old q))
          w.in_ok-copy.ensures (w.in_ok-insert.ensures.updates.0 q))
      | else-contains w ↦
          ap (λ (s : BTreeSet TestInstanceId). has_id s.keys q) w.set-is
          ∙ unknown_next ids known.keys i id q start (has_id old.keys q) c.loop-id-test.true c.id-item.is
          (has ∙ w.if-contains.false) (c.loop-id.invariant q)
    ]
