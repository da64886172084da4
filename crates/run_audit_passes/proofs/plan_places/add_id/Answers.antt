use Rattle.std.proofs.Common.{◌≡◌, ◌∙◌, ◌++◌, ◌∷◌, [], cond, Some, ap, subst}
use Rattle.std.specs.BTreeMap.{get, is_at}
use Rattle.run_events.specs.declared.plan.TestInstanceId.{TestInstanceId}
use Rattle.run_model.specs.Reruns.{id_order}
use Rattle.run_audit_passes.proofs.plan_places.add_id.Goals as goal

pub returns-clause-ids : goal.returns-clause-ids
returns-clause-ids c =
    c.in_ok-push.ensures.items ∙ ap (λ id. c.args.ids.now.items ++ id ∷ []) c.in_ok-copy-2.ensures

pub returns-clause-places : goal.returns-clause-places
returns-clause-places c = λ q.
    subst (λ (k : TestInstanceId). get id_order c.insert.new.self q
    ≡ cond (is_at (id_order k) q) (Some c.args.place) (get id_order c.args.places.now q))
    c.in_ok-copy.ensures (c.in_ok-insert.ensures.updates.0 q)
