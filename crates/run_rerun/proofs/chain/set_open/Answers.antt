use Rattle.std.proofs.Common.{◌≡◌, ◌∙◌, cond, not, true, false, ap, sym, subst}
use Rattle.std.specs.BTreeMap.{is_at}
use Rattle.std.specs.BTreeSet.{contains}
use Rattle.run_events.specs.declared.plan.TestInstanceId.{TestInstanceId}
use Rattle.run_model.specs.Reruns.{id_order, is_one_test}
use Rattle.run_rerun.specs.Outstanding.{has_id}
use Rattle.run_rerun.proofs.OutstandingLemmas.{set_with}
use Rattle.run_rerun.proofs.chain.set_open.Goals as goal

pub returns-then-passed : goal.returns-then-passed
returns-then-passed c = λ q.
    let old = c.args.left.now in
    let id = c.args.id.now in
    set_with old c.remove.new.self id q false (c.remove.ensures.updates.0 q)
    ∙ ap (λ b. cond (is_one_test q id) (not b) (has_id old.keys q)) (sym c.if-passed.true)

pub returns-in_ok-insert : goal.returns-in_ok-insert
returns-in_ok-insert c = λ q.
    let old = c.args.left.now in
    let new = c.insert.new.self in
    let id = c.args.id.now in
    set_with old new id q true
    (subst (λ (k : TestInstanceId). contains id_order new q
    ≡ cond (is_at (id_order k) q) true (contains id_order old q))
    c.in_ok-copy.ensures (c.in_ok-insert.ensures.updates.0 q))
    ∙ ap (λ b. cond (is_one_test q id) (not b) (has_id old.keys q)) (sym c.if-passed.false)
