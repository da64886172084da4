use Rattle.std.proofs.Common.{◌≡◌, ◌∙◌, ◌++◌, ◌∷◌, [], length, cond, Some, sym, ap, subst}
use Rattle.std.specs.BTreeMap.{get, is_at}
use Rattle.run_model.specs.Reruns.{id_order, is_one_test}
use Rattle.run_audit_machines.specs.Accounts.{IsOwnPlace}
use Rattle.run_audit_passes.proofs.PlanPlaceLemmas.{ids_long, ids_more, none_of, not_apart, place_more}
use Rattle.run_audit_passes.proofs.plan_places.places_of.Goals as goal

pub loop-place-preserved : goal.loop-place-preserved
loop-place-preserved c =
    let l = c.loop-place in
    let test = c.index-tests-place.result in
    let tests = c.args.tests.now in
    let x = test.id in
    let new = subst (IsOwnPlace (is_one_test x) l.ids.items) (none_of (get id_order l.places x)
    (sym c.contains_key.ensures ∙ c.if-contains_key.false)) (l.invariant.right x) in
    let pushed : c.add_id.new.ids.items ≡ l.ids.items ++ x ∷ [] = c.in_ok-add_id.ensures.ids in
    record {
      ids = pushed ∙ ap (λ ids. ids ++ x ∷ []) l.invariant.ids
          ∙ sym (ids_more (λ t. t.id) tests l.place test c.loop-place-test.true c.index-tests-place.is);
      right = λ q.
          let long = ids_long (λ t. t.id) tests l.place c.loop-place-test.true
          ∙ ap length (sym l.invariant.ids) in
          let found : get id_order c.add_id.new.places q ≡ cond (is_at (id_order x) q) (Some l.place)
          (get id_order l.places q) = c.in_ok-add_id.ensures.places q in
          subst (λ ids. IsOwnPlace (is_one_test q) ids (get id_order c.add_id.new.places q)) (sym pushed)
          (subst (IsOwnPlace (is_one_test q) (l.ids.items ++ x ∷ [])) (sym found)
          (place_more l.ids.items x q l.place (get id_order l.places q) new long (l.invariant.right q)));
    }

pub returns-then-contains_key-clause-none : goal.returns-then-contains_key-clause-none
returns-then-contains_key-clause-none c = λ none apart.
    let l = c.loop-place in
    let test = c.index-tests-place.result in
    not_apart (λ t. t.id) c.args.tests.now l.place test l.ids.items (get id_order l.places test.id)
    c.loop-place-test.true c.index-tests-place.is l.invariant.ids
    (sym c.contains_key.ensures ∙ c.if-contains_key.true) (l.invariant.right test.id) apart
