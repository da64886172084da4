use Rattle.std.proofs.Common.{◌≡◌, ◌∙◌, sym, subst}
use Rattle.run_events.specs.declared.plan.TestInstanceId.{TestInstanceId}
use Rattle.run_rerun.specs.Outstanding.{has_id}
use Rattle.run_rerun.specs.Shards.{IsFirstAmiss}
use Rattle.run_rerun.proofs.OutstandingLemmas.{has-among}
use Rattle.run_rerun.proofs.ShardLemmas.{amiss_here, not_same, right_next, the_same}
use Rattle.run_rerun.proofs.seen.first_amiss.Goals as goal

pub returns-then-contains-right : goal.returns-then-contains-right
returns-then-contains-right c =
    let ids = c.args.ids.now in
    let set = c.args.set.now in
    let i = c.loop-id.id-index in
    let id = c.id-item.result in (
      i,
      subst (IsFirstAmiss (λ id. has_id set.keys id ≡ c.args.right) ids i) (sym c.in_ok-copy.ensures)
          (amiss_here (λ id. has_id set.keys id ≡ c.args.right) ids i id c.loop-id-test.true c.id-item.is
          (λ e. not_same c.contains.result c.args.right c.if-contains-right.true
          (c.contains.ensures ∙ has-among set id ∙ e)) c.loop-id.invariant),
    )

pub loop-id-preserved : goal.loop-id-preserved
loop-id-preserved c =
    let set = c.args.set.now in
    let id = c.id-item.result in
    right_next (λ id. has_id set.keys id ≡ c.args.right) c.args.ids.now c.loop-id.id-index id c.loop-id-test.true
    c.id-item.is (sym (has-among set id) ∙ sym c.contains.ensures
    ∙ the_same c.contains.result c.args.right c.if-contains-right.false) c.loop-id.invariant
