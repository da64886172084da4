-- The tests that a rerun has not seen: what is left of a set of them, and what events leave.
use Rattle.std.proofs.Common.{◌≡◌, ◌&&◌, ◌||◌, cond, not, Bool, true, false, refl, ap, sym, ◌∙◌, subst}
use Rattle.std.proofs.Common.{ℕ, ◌≤◌, List, [], ◌∷◌, ◌++◌, length, take, arith, Option, Some, None, option_map, nat_eq}
use Rattle.std.specs.List.{filter, list_any, AllByRecursion}
use Rattle.std.specs.List.Sorted.{IsStrictlySortedBy}
use Rattle.std.specs.Set.{remove_key}
use Rattle.std.specs.declared.cmp.Ordering.{Ordering}
use Rattle.std.specs.declared.cmp.Ordering.TheVariants.{Less, Equal, Greater}
use Rattle.std.specs.Ordering.{nat_cmp, ordering_then, is_eq}
use Rattle.std.specs.Cmp.Lexicographic.{slice_cmp, texts_ties}
use Rattle.std.proofs.lemmas.Map.Lookups.{CmpEqualImpliesEq, exact_pairs, exact_bytes}
use Rattle.std.proofs.lemmas.List.{take_all, take-append-le}
use Rattle.std.proofs.lemmas.List.Elements.{filter_agree}
use lib.Pointwise.{pointwise}
use Rattle.run_events.specs.declared.events.ReporterEvent.{ReporterEvent}
use Rattle.run_events.specs.declared.plan.TestInstanceId.{TestInstanceId}
use Rattle.run_model.specs.Reruns.{id_order, is_one_test, sees, unseen_among, without}

then_equal : (a b : Ordering) → is_eq (ordering_then a b) ≡ (is_eq a && is_eq b)
then_equal Less b = refl
then_equal Equal b = refl
then_equal Greater b = refl

-- ids that are equal in their order are those of one test
pub one_test : (a b : TestInstanceId) → is_eq (id_order a b) ≡ is_one_test a b
one_test a b =
    then_equal (slice_cmp nat_cmp a.binary b.binary) (slice_cmp nat_cmp a.name b.name)
    ∙ ap (λ e. e && is_eq (slice_cmp nat_cmp a.name b.name)) (sym (texts_ties a.binary b.binary))
    ∙ ap (λ e. pointwise nat_eq a.binary b.binary && e) (sym (texts_ties a.name b.name))

-- and are equal
exact_ids : CmpEqualImpliesEq id_order
exact_ids a b h =
    ap (λ (p : List _ × List _). record { binary = p.0; name = p.1 })
    (exact_pairs (slice_cmp nat_cmp) (slice_cmp nat_cmp) exact_bytes exact_bytes (a.binary, a.name) (
      b.binary,
      b.name,
    ) h)

is_equal : (o : Ordering) → is_eq o ≡ true → o ≡ Equal
is_equal Less h = cc
is_equal Equal h = refl
is_equal Greater h = cc

-- tests above one are other tests
others : (id : TestInstanceId) (ids : List TestInstanceId) → AllByRecursion (λ y. id_order id y ≡ Less) ids
    → without id ids ≡ ids
others id [] h = refl
others id (x ∷ ids) h =
    let other : is_one_test id x ≡ false = sym (one_test id x) ∙ ap is_eq h.0 in
    rw other (ap (λ ids. x ∷ ids) (others id ids h.1))

-- what a set of tests in ascending order has but one test
pub removed : (id : TestInstanceId) (ids : List TestInstanceId) → IsStrictlySortedBy id_order ids
    → remove_key (λ x. is_eq (id_order id x)) ids ≡ without id ids
unfolding IsStrictlySortedBy
removed id [] h = refl
removed id (x ∷ ids) h =
    ap (λ b. cond b ids (x ∷ remove_key (λ x. is_eq (id_order id x)) ids)) (one_test id x)
    ∙ by (is_one_test id x) refl (removed id ids h.1)
  where
    by : (b : Bool) → is_one_test id x ≡ b → remove_key (λ x. is_eq (id_order id x)) ids ≡ without id ids
        → cond b ids (x ∷ remove_key (λ x. is_eq (id_order id x)) ids) ≡ cond (not b) (x ∷ without id ids) (without
        id ids)
    by true is rest =
        let same : id ≡ x = exact_ids id x (is_equal (id_order id x) (one_test id x ∙ is)) in
        sym (others id ids (subst (λ (y : TestInstanceId). AllByRecursion (λ z. id_order y z ≡ Less) ids) (sym same)
        h.0))
    by false is rest = ap (λ ids. x ∷ ids) rest

all_pass : {X : Type 0} (p : X → Bool) (xs : List X) → ((x : X) → p x ≡ true) → filter p xs ≡ xs
all_pass p [] h = refl
all_pass p (x ∷ xs) h = rw (h x) (ap (λ xs. x ∷ xs) (all_pass p xs h))

-- events that tell no test started or skipped leave all of them, and those that tell it of one test leave all but it
pub unseen-none : (events : List ReporterEvent) → ((id : TestInstanceId) → list_any (sees id) events ≡ false)
    → (unseen : Option (List TestInstanceId)) → option_map (unseen_among events) unseen ≡ unseen
unseen-none events none None = refl
unseen-none events none (Some ids) =
    ap Some (all_pass (λ id. not (list_any (sees id) events)) ids (λ id. ap not (none id)))

pub unseen-one : (one : TestInstanceId) (events : List ReporterEvent)
    → ((id : TestInstanceId) → list_any (sees id) events ≡ is_one_test one id)
    → (unseen : Option (List TestInstanceId))
    → option_map (unseen_among events) unseen ≡ option_map (without one) unseen
unseen-one one events sees_it None = refl
unseen-one one events sees_it (Some ids) =
    ap Some (filter_agree (λ id. not (list_any (sees id) events)) (λ id. not (is_one_test one id)) (λ id. ap not
    (sees_it id)) ids)

-- the first eight of some tests, where eight were taken
pub first_taken : (first rest ids : List TestInstanceId) → first ++ rest ≡ ids → length first ≡ 8 → first ≡ take 8 ids
first_taken first rest ids all few =
    sym (ap (take 8) (sym all) ∙ take-append-le 8 first rest (omega arith) ∙ take_all 8 first (omega arith))
