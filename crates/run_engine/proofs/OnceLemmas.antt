-- A plan that was built has each id once.
use Rattle.std.proofs.Common.{◌≡◌, ℕ, zero, suc, ◌<◌, List, [], ◌∷◌, length, take, get_or, Bool, true, false, map}
use Rattle.std.proofs.Common.{Option, Some, None, is_some, option_map, slice_get, refl, ap, sym, ◌∙◌, arith}
use Rattle.std.specs.List.{list_any}
use Rattle.std.proofs.Common.{length-take, get_or-take}
use Rattle.std.proofs.lemmas.List.{length-map}
use Rattle.std.proofs.lemmas.List.Folds.{list_any_at}
use Rattle.std.proofs.lemmas.Map.Keys.{IsDistinct-from_apart}
use Rattle.std.proofs.lemmas.Option.{get_or_from_slice_get, slice_get-map, slice_get_within}
use Rattle.run_events.specs.declared.plan.Group.{Group}
use Rattle.run_events.specs.declared.plan.PlanTest.{PlanTest}
use Rattle.run_events.specs.declared.plan.TestInstanceId.{TestInstanceId}
use Rattle.run_events.specs.declared.retry_policy.RetryPolicy.{RetryPolicy}
use Rattle.run_events.specs.declared.settings.Settings.{Settings}
use Rattle.run_engine.specs.Builder.{is_among, is_repeat, refusal_at, refusal_with}
use Rattle.run_model.specs.Reruns.{is_one_test}
use Rattle.run_engine.proofs.FewLemmas.{unrefused}
use Rattle.run_model.specs.Once.{HasEachIdOnce}

-- the ids of some tests
abbrev pub ids_of : List PlanTest → List TestInstanceId
ids_of tests = map (λ (test : PlanTest). test.id) tests

pub id_at : (tests : List PlanTest) (i : ℕ) (test : PlanTest) (d : TestInstanceId) → slice_get tests i ≡ Some test
    → get_or (ids_of tests) i d ≡ test.id
id_at tests i test d there =
    get_or_from_slice_get (ids_of tests) i test.id d
    (slice_get-map (λ (test : PlanTest). test.id) tests i ∙ ap (option_map (λ (test : PlanTest). test.id)) there)

-- a test that isn't refused repeats no id
not_repeated : (k : ℕ) (repeats : Bool) (groups : List Group) (retries : Option RetryPolicy) (test : PlanTest)
    → is_some (refusal_at k repeats groups retries test) ≡ false → repeats ≡ false
not_repeated k false groups retries test none = refl
not_repeated k true groups retries test none = cc

-- so it is apart from each before it
not_so : (b : Bool) → (b ≡ true → true ≡ false) → b ≡ false
not_so true h = h refl
not_so false h = refl

apart_from : (tests : List PlanTest) (i j : ℕ) (s t : PlanTest) → i < j → slice_get tests i ≡ Some s
    → slice_get tests j ≡ Some t
    → is_repeat tests j ≡ false → is_one_test s.id t.id ≡ false
apart_from tests i j s t below at_i at_j once = not_so (is_one_test s.id t.id) found
  where
    found : is_one_test s.id t.id ≡ true → true ≡ false
    found same =
        let there : get_or (take j tests) i s ≡ s = rw get_or-take (get_or_from_slice_get tests i s s at_i) in
        let within : i < length (take j tests) =
        omega (arith, length-take j tests, slice_get_within tests j t at_j) in
        let some : list_any (λ (u : PlanTest). is_one_test u.id t.id) (take j tests) ≡ true =
        list_any_at (λ (u : PlanTest). is_one_test u.id t.id) (take j tests) i s within
        (ap (λ (u : PlanTest). is_one_test u.id t.id) there ∙ same) in
        sym some ∙ ap (is_among (take j tests)) (sym at_j) ∙ once

-- a place within a list has an item
none_within : (tests : List PlanTest) (k : ℕ) → k < length tests → slice_get tests k ≡ None → ⊥
none_within [] k below none = absurd (omega arith)
none_within (t ∷ tests) zero below none = cc
none_within (t ∷ tests) (suc k) below none = none_within tests k (omega arith) none

pub built_once : (p : Settings) (threads : ℕ)
    → refusal_with threads p.plan.groups p.retries p.plan.tests ≡ None → HasEachIdOnce p
built_once p threads accepted = IsDistinct-from_apart is_one_test (ids_of tests) apart
  where
    tests : List PlanTest
    tests = p.plan.tests

    apart_at : (i j : ℕ) (s t : PlanTest) (d : TestInstanceId) → i < j → slice_get tests i ≡ Some s
        → slice_get tests j ≡ Some t
        → is_one_test (get_or (ids_of tests) i d) (get_or (ids_of tests) j d) ≡ false
    apart_at i j s t d below at_i at_j =
        rw (id_at tests i s d at_i, id_at tests j t d at_j)
        (apart_from tests i j s t below at_i at_j
        (not_repeated j (is_repeat tests j) p.plan.groups p.retries t (unrefused p threads accepted j t at_j)))

    apart : (i j : ℕ) (d : TestInstanceId) → i < j → j < length (ids_of tests)
        → is_one_test (get_or (ids_of tests) i d) (get_or (ids_of tests) j d) ≡ false
    apart i j d below within = by_place (slice_get tests i) refl (slice_get tests j) refl
      where
        fits : j < length tests
        fits = omega (arith, length-map tests (λ (test : PlanTest). test.id))

        by_place : (o : Option PlanTest) → slice_get tests i ≡ o → (q : Option PlanTest) → slice_get tests j ≡ q
            → is_one_test (get_or (ids_of tests) i d) (get_or (ids_of tests) j d) ≡ false
        by_place (Some s) at_i (Some t) at_j = apart_at i j s t d below at_i at_j
        by_place None none q at_j = absurd (none_within tests i (omega (arith, fits)) none)
        by_place o at_i None none = absurd (none_within tests j fits none)
