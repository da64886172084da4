-- What is outstanding as one more test, or run, is taken.
use Rattle.std.proofs.Common.{◌≡◌, ◌∙◌, ◌+◌, ◌<◌, ◌||◌, ℕ, List, [], ◌∷◌, ◌++◌, length, take, get_or, Bool, true, false}
use Rattle.std.proofs.Common.{Some, None, cond, not, refl, sym, ap}
use Rattle.std.specs.List.{list_any}
use Rattle.std.specs.Option.{option_map_or, option_or}
use Rattle.std.specs.BTreeMap.{is_at}
use Rattle.std.specs.BTreeSet.{BTreeSet, contains}
use Rattle.std.specs.Ordering.{is_eq, nat_cmp, ordering_reverse}
use Rattle.std.specs.Cmp.Lexicographic.{slice_cmp}
use Rattle.std.specs.Cmp.{IsTotalOrder}
use Rattle.std.specs.declared.cmp.Ordering.{Ordering}
use Rattle.std.specs.declared.cmp.Ordering.TheVariants.{Less, Equal, Greater}
use Rattle.std.proofs.lemmas.Cmp.{nat_list_cmp_total, on_total, then_total}
use Rattle.std.proofs.lemmas.Map.Lookups.{CmpEqualImpliesEq, exact_pairs, exact_bytes}
use Rattle.std.proofs.lemmas.List.{take_more}
use Rattle.std.proofs.lemmas.List.Folds.{list_any-append}
use Rattle.run_events.specs.declared.plan.TestInstanceId.{TestInstanceId}
use Rattle.run_model.specs.Reruns.{id_order, is_one_test}
use Rattle.run_model.proofs.RerunLemmas.{one_test}
use Rattle.run_rerun.specs.declared.answers.RunTests.{RunTests}
use Rattle.run_rerun.specs.Outstanding.{has_id, is_outstanding, latest}

-- a set has what is among its keys
pub has-among : (set : BTreeSet TestInstanceId) (q : TestInstanceId) → contains id_order set q ≡ has_id set.keys q
has-among set q = in_all set.keys
  where
    in_all : (ids : List TestInstanceId) → list_any (is_at (id_order q)) ids ≡ list_any (is_one_test q) ids
    in_all [] = refl
    in_all (id ∷ ids) = ap (λ b. b || list_any (is_at (id_order q)) ids) (one_test q id)
        ∙ ap (λ b. is_one_test q id || b) (in_all ids)

-- the order of tests, and which of them are equal
ids_total : IsTotalOrder id_order
ids_total =
    then_total (on_total (λ (id : TestInstanceId). id.binary) nat_list_cmp_total)
    (on_total (λ (id : TestInstanceId). id.name) nat_list_cmp_total)

exact_ids : CmpEqualImpliesEq id_order
exact_ids a b h =
    ap (λ (p : List _ × List _). record { binary = p.0; name = p.1 })
    (exact_pairs (slice_cmp nat_cmp) (slice_cmp nat_cmp) exact_bytes exact_bytes (a.binary, a.name) (
      b.binary,
      b.name,
    ) h)

is_equal : (o : Ordering) → is_eq o ≡ true → o ≡ Equal
is_equal Less h = cc
is_equal Equal h = refl
is_equal Greater h = cc

pub same_test : (a b : TestInstanceId) → is_one_test a b ≡ true → a ≡ b
same_test a b h = exact_ids a b (is_equal (id_order a b) (one_test a b ∙ h))

-- the order of two tests says the same either way round
turned : (a b : TestInstanceId) → is_eq (id_order a b) ≡ is_one_test b a
turned a b = ap is_eq (ids_total.antisymm a b) ∙ reversed (id_order b a) ∙ one_test b a
  where
    reversed : (o : Ordering) → is_eq (ordering_reverse o) ≡ is_eq o
    reversed Less = refl
    reversed Equal = refl
    reversed Greater = refl

-- a set with one more test, or one less
pub set_with : (old new : BTreeSet TestInstanceId) (id q : TestInstanceId) (b : Bool)
    → contains id_order new q ≡ cond (is_at (id_order id) q) b (contains id_order old q)
    → has_id new.keys q ≡ cond (is_one_test q id) b (has_id old.keys q)
set_with old new id q b updated =
    sym (has-among new q) ∙ updated ∙ ap (λ t. cond t b (contains id_order old q)) (turned id q)
    ∙ ap (λ r. cond (is_one_test q id) b r) (has-among old q)

-- among one more
pub among_more : (ids : List TestInstanceId) (id q : TestInstanceId)
    → has_id (ids ++ id ∷ []) q ≡ (has_id ids q || is_one_test q id)
among_more ids id q =
    list_any-append (is_one_test q) ids (id ∷ [])
    ∙ ap (λ b. has_id ids q || b) (alone (is_one_test q id))
  where
    alone : (b : Bool) → (b || false) ≡ b
    alone true = refl
    alone false = refl

-- the latest run that has a test, with one more run
latest_more : (chain : List RunTests) (run : RunTests) (id : TestInstanceId)
    → latest id (chain ++ run ∷ []) ≡ (cond (has_id run.has id) (Some run) (latest id chain))
latest_more [] run id = refl
latest_more (first ∷ chain) run id =
    ap (λ o. option_or o (cond (has_id first.has id) (Some first) None)) (latest_more chain run id)
    ∙ by (has_id run.has id)
  where
    by : (b : Bool) → option_or (cond b (Some run) (latest id chain)) (cond (has_id first.has id) (Some first) None)
        ≡ cond b (Some run) (option_or (latest id chain) (cond (has_id first.has id) (Some first) None))
    by true = refl
    by false = refl

-- what a chain leaves outstanding, with one more run
pub outstanding_more : (chain : List RunTests) (run : RunTests) (id : TestInstanceId)
    → is_outstanding (chain ++ run ∷ []) id
    ≡ cond (has_id run.has id) (not (has_id run.passed id)) (is_outstanding chain id)
outstanding_more chain run id =
    ap (λ o. option_map_or (λ (run : RunTests). not (has_id run.passed id)) o false) (latest_more chain run id)
    ∙ by (has_id run.has id)
  where
    by : (b : Bool) → option_map_or (λ (run : RunTests). not (has_id run.passed id)) (cond b (Some run)
        (latest id chain)) false ≡ cond b (not (has_id run.passed id)) (is_outstanding chain id)
    by true = refl
    by false = refl

-- a set of the first of some tests, with the next of them
pub set_more : (ids : List TestInstanceId) (i : ℕ) (id q : TestInstanceId) (old new : BTreeSet TestInstanceId)
    → i < length ids → id ≡ get_or ids i id → has_id old.keys q ≡ has_id (take i ids) q
    → contains id_order new q ≡ cond (is_at (id_order id) q) true (contains id_order old q)
    → has_id new.keys q ≡ has_id (take (i + 1) ids) q
set_more ids i id q old new within is before updated =
    set_with old new id q true updated ∙ ap (λ r. cond (is_one_test q id) true r) before
    ∙ either (is_one_test q id) (has_id (take i ids) q) ∙ sym (among_more (take i ids) id q)
    ∙ ap (λ e. has_id (take i ids ++ e ∷ []) q) is ∙ ap (λ ids. has_id ids q) (sym (take_more ids i id within))
  where
    either : (a b : Bool) → cond a true b ≡ (b || a)
    either true true = refl
    either true false = refl
    either false true = refl
    either false false = refl

-- what is open after the first tests of a run, with the next of them
pub open_more : (has passed : List TestInstanceId) (start : Bool) (i : ℕ) (id q : TestInstanceId) (old new : Bool)
    → i < length has → id ≡ get_or has i id
    → old ≡ cond (has_id (take i has) q) (not (has_id passed q)) start
    → new ≡ cond (is_one_test q id) (not (has_id passed id)) old
    → new ≡ cond (has_id (take (i + 1) has) q) (not (has_id passed q)) start
open_more has passed start i id q old new within is before after =
    after ∙ ap (λ r. cond (is_one_test q id) (not (has_id passed id)) r) before
    ∙ by (is_one_test q id) refl
    ∙ ap (λ b. cond b (not (has_id passed q)) start) (sym (among_more (take i has) id q)
    ∙ ap (λ e. has_id (take i has ++ e ∷ []) q) is ∙ ap (λ ids. has_id ids q) (sym (take_more has i id within)))
  where
    or_true : (b : Bool) → (b || true) ≡ true
    or_true true = refl
    or_true false = refl

    or_false : (b : Bool) → (b || false) ≡ b
    or_false true = refl
    or_false false = refl

    by : (b : Bool) → is_one_test q id ≡ b
        → cond b (not (has_id passed id)) (cond (has_id (take i has) q) (not (has_id passed q)) start)
        ≡ cond (has_id (take i has) q || b) (not (has_id passed q)) start
    by true one =
        ap (λ e. not (has_id passed e)) (sym (same_test q id one))
        ∙ ap (λ b. cond b (not (has_id passed q)) start) (sym (or_true (has_id (take i has) q)))
    by false one = ap (λ b. cond b (not (has_id passed q)) start) (sym (or_false (has_id (take i has) q)))
