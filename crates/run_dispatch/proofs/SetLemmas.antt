-- A set that is made of tests in ascending order.
use Rattle.std.proofs.Common.{◌≡◌, ℕ, ◌+◌, ◌<◌, refl, ap, sym, subst, ◌∙◌, List, [], ◌∷◌, ◌++◌, length, take, drop}
use Rattle.std.proofs.Common.{get_or}
use Rattle.std.proofs.Common.{add-one, drop-cons}
use Rattle.std.specs.List.{AllByRecursion}
use Rattle.std.specs.List.Sorted.{IsStrictlySortedBy}
use Rattle.std.specs.Ordering.{match_ordering, ordering_reverse}
use Rattle.std.specs.Cmp.{IsTotalOrder}
use Rattle.std.specs.declared.cmp.Ordering.TheVariants.{Less, Greater}
use Rattle.std.specs.BTreeSet.{insert_key}
use Rattle.std.proofs.lemmas.Cmp.{on_total, then_total, nat_list_cmp_total}
use Rattle.std.proofs.lemmas.List.{take_more, take-append-drop}
use Rattle.run_events.specs.declared.plan.TestInstanceId.{TestInstanceId}
use Rattle.run_model.specs.Reruns.{id_order}

ids_total : IsTotalOrder id_order
ids_total =
    then_total (on_total (λ (id : TestInstanceId). id.binary) nat_list_cmp_total)
    (on_total (λ (id : TestInstanceId). id.name) nat_list_cmp_total)

-- of tests in ascending order, one that others follow is above each before it
above : (x k : TestInstanceId) (front rest : List TestInstanceId)
    → AllByRecursion (λ y. id_order x y ≡ Less) (front ++ k ∷ rest) → id_order k x ≡ Greater
above x k [] rest h = ids_total.antisymm k x ∙ ap ordering_reverse h.0
above x k (y ∷ front) rest h = above x k front rest h.1

-- and is put in after them
last : (front : List TestInstanceId) (k : TestInstanceId) (rest : List TestInstanceId)
    → IsStrictlySortedBy id_order (front ++ k ∷ rest) → insert_key id_order front k ≡ front ++ k ∷ []
unfolding IsStrictlySortedBy
last [] k rest h = refl
last (x ∷ front) k rest h =
    ap (λ o. match_ordering o (k ∷ x ∷ front) (x ∷ front) (x ∷ insert_key id_order front k)) (above x k front rest h.0)
    ∙ ap (λ ids. x ∷ ids) (last front k rest h.1)

-- the set of the first of them, and of one more
pub one_more_kept : (ids : List TestInstanceId) (i : ℕ) (d : TestInstanceId) → i < length ids
    → IsStrictlySortedBy id_order ids → insert_key id_order (take i ids) (get_or ids i d) ≡ take (i + 1) ids
one_more_kept ids i d inside sorted =
    let split : take i ids ++ get_or ids i d ∷ drop (i + 1) ids ≡ ids =
    ap (λ j. take i ids ++ get_or ids i d ∷ drop j ids) (add-one i)
    ∙ ap (λ rest. take i ids ++ rest) (sym (drop-cons ids i d inside)) ∙ take-append-drop i ids in
    last (take i ids) (get_or ids i d) (drop (i + 1) ids) (subst (IsStrictlySortedBy id_order) (sym split) sorted)
    ∙ sym (take_more ids i d inside)
