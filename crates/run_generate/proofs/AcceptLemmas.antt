-- A generated plan breaks no rule.
use Rattle.std.proofs.Common.{◌≡◌, ℕ, ◌+◌, ◌%◌, ◌==◌, ◌&&◌, ◌||◌, ◌<◌, ◌≤◌, ◌^◌, List, [], ◌∷◌, ◌++◌, length, map, take}
use Rattle.std.proofs.Common.{slice_get, nat_lt}
use Rattle.std.proofs.Common.{Bool, true, false, if◌then◌else◌, Option, Some, None, is_some, option_map}
use Rattle.std.proofs.Common.{option_and_then, codes, decimal, Err}
use Rattle.std.proofs.Common.{nat_eq, nat_le, zero, suc, refl, ap, sym, subst, ◌∙◌, arith}
use Rattle.std.specs.List.{range_with_len, list_any}
use Rattle.std.specs.Option.{option_or}
use Rattle.std.proofs.lemmas.Bool.Decides.{nat_tests}
use Rattle.std.proofs.lemmas.List.Folds.{list_any-append}
use Rattle.std.proofs.lemmas.List.FromFn.{length-map-range_with_len, get_or-map-range_with_len, map-range_with_len_more}
use Rattle.std.proofs.lemmas.List.FromFn.{take-map-range_with_len}
use Rattle.std.proofs.lemmas.Option.{slice_get-get_or, slice_get_past}
use lib.Pointwise.{pointwise}
use Rattle.run_events.specs.declared.plan.PlanTest.{PlanTest}
use Rattle.run_events.specs.declared.plan.TestInstanceId.{TestInstanceId}
use Rattle.run_engine.specs.Builder.{is_among, is_repeat, names_no_group, has_too_many, refusal_at, refusal_with}
use Rattle.run_engine.specs.Builder.{test_refusal}
use Rattle.run_model.specs.Reruns.{is_one_test}
use Rattle.run_engine.specs.Builder.{first_refused, refusal_of, Builder, IsBuilt}
use Rattle.run_engine.specs.declared.errors.TestRunnerBuildError.{TestRunnerBuildError}
use Rattle.run_engine.specs.declared.errors.TestRunnerBuildError.TheVariants.{ZeroLimit, DuplicateTest, UnknownGroup}
use Rattle.run_engine.specs.declared.errors.TestRunnerBuildError.TheVariants.{ZeroWeight, TooManyRetries, OutOfMemory}
use Rattle.run_events.specs.declared.plan.Plan.{Plan}
use Rattle.run_events.specs.declared.retry_policy.RetryPolicy.TheVariants.{Fixed}
use Rattle.run_generate.specs.Plan.{generated_plan, group_at, id_at, retries_at, test_at, the_group}
use Rattle.run_generate.proofs.FirstLemmas.{position_none}
use Rattle.run_generate.proofs.NameLemmas.{names_apart}

tests : ℕ → List PlanTest
tests n = map test_at (range_with_len 0 n)

-- two tests have two ids
apart : (i j : ℕ) → i < j → j < 2 ^ 32 → is_one_test (id_at i) (id_at j) ≡ false
apart i j before few =
    by_binary (pointwise nat_eq (codes "gen") (codes "gen"))
    (names_apart i j (omega arith) few (λ e. absurd (omega arith)))
  where
    by_binary : (b : Bool) → pointwise nat_eq (codes "t" ++ decimal i) (codes "t" ++ decimal j) ≡ false
        → (b && pointwise nat_eq (codes "t" ++ decimal i) (codes "t" ++ decimal j)) ≡ false
    by_binary true e = e
    by_binary false e = refl

none_has : (k m : ℕ) → m ≤ k → k < 2 ^ 32
    → list_any (λ t. is_one_test t.id (id_at k)) (map test_at (range_with_len 0 m)) ≡ false
none_has k zero le few = refl
none_has k (suc m) le few =
    let f : PlanTest → Bool = λ t. is_one_test t.id (id_at k) in
    let more = map-range_with_len_more test_at 0 m m (omega arith) in
    let last : f (test_at m) ≡ false = apart m k (omega arith) few in
    let earlier : list_any f (map test_at (range_with_len 0 m)) ≡ false = none_has k m (omega arith) few in
    let size : suc m ≡ m + 1 = omega arith in
    ap (λ n. list_any f (map test_at (range_with_len 0 n))) size ∙ ap (list_any f) more
    ∙ list_any-append f (map test_at (range_with_len 0 m)) (test_at m ∷ [])
    ∙ ap (λ b. b || list_any f (test_at m ∷ [])) earlier ∙ ap (λ b. b || false) last

-- a test breaks no rule
fine : (k : ℕ) → refusal_at k false (the_group ∷ []) None (test_at k) ≡ None
fine k = by_group (k % 5 == 0) (k % 7 == 3)
  where
    no_zero : (1 + k % 3 == 0) ≡ false
    no_zero = grind (arith, nat_tests)

    by_group : (grouped retried : Bool)
        → refusal_at k false (the_group ∷ []) None (record (test_at k) {
          group = if grouped then Some (codes "g") else None;
          retries = Fixed (if retried then 1 else 0) 0 false;
        }) ≡ None
    by_group true true = ap (λ b. if b then Some (ZeroWeight k) else None) no_zero
    by_group true false = ap (λ b. if b then Some (ZeroWeight k) else None) no_zero
    by_group false true = ap (λ b. if b then Some (ZeroWeight k) else None) no_zero
    by_group false false = ap (λ b. if b then Some (ZeroWeight k) else None) no_zero

at_place : (n k : ℕ) → n ≤ 20000 → test_refusal (the_group ∷ []) None (map test_at (range_with_len 0 n)) k ≡ None
at_place n k few = by_place (nat_lt k n) refl
  where
    by_place : (b : Bool) → nat_lt k n ≡ b
        → test_refusal (the_group ∷ []) None (map test_at (range_with_len 0 n)) k ≡ None
    by_place true e =
        let below : k < n = grind (arith, nat_tests) in
        let ts : List PlanTest = map test_at (range_with_len 0 n) in
        let long : length ts ≡ n = length-map-range_with_len test_at 0 n in
        let at : slice_get ts k ≡ Some (test_at k) =
        slice_get-get_or ts k (test_at k) (omega (arith, long))
        ∙ ap Some (get_or-map-range_with_len test_at 0 n k k (test_at k) below (omega arith)) in
        let before : take k ts ≡ map test_at (range_with_len 0 k) = take-map-range_with_len test_at 0 n k (omega
        arith) in
        let repeats : is_repeat ts k ≡ false =
        ap (is_among (take k ts)) at ∙ ap (list_any (λ t. is_one_test t.id (id_at k))) before
        ∙ none_has k k (omega arith) (omega arith) in
        ap (option_and_then (refusal_at k (is_repeat ts k) (the_group ∷ []) None)) at
        ∙ ap (λ r. refusal_at k r (the_group ∷ []) None (test_at k)) repeats ∙ fine k
    by_place false e =
        let ts : List PlanTest = map test_at (range_with_len 0 n) in
        let past : n ≤ k = grind (arith, nat_tests) in
        let none : slice_get ts k ≡ None = slice_get_past ts k (omega (arith, length-map-range_with_len test_at 0 n)) in
        ap (option_and_then (refusal_at k (is_repeat ts k) (the_group ∷ []) None)) none

pub accepted : (n : ℕ) → n ≤ 20000 → refusal_with 16 (generated_plan n).groups None (generated_plan n).tests ≡ None
accepted n few =
    let ts : List PlanTest = map test_at (range_with_len 0 n) in
    let none : first_refused (the_group ∷ []) None ts ≡ None =
    position_none (λ k. is_some (test_refusal (the_group ∷ []) None ts k)) (range_with_len 0 (length ts)) 0
    (λ j. ap is_some (at_place n _ few)) in
    ap (option_and_then (test_refusal (the_group ∷ []) None ts)) none

-- so that it is refused for want of memory alone
pub memory_only : (n : ℕ) → n ≤ 20000 → (builder : Builder) (plan : Plan) (error : TestRunnerBuildError)
    → refusal_of builder plan ≡ refusal_with 16 (generated_plan n).groups None (generated_plan n).tests
    → IsBuilt builder plan (Err error) → error ≡ OutOfMemory
memory_only n few builder plan OutOfMemory same built = refl
memory_only n few builder plan (ZeroLimit group) same built = let never : None ≡ Some (ZeroLimit group) = sym (same ∙
    accepted n few) ∙ built in cc
memory_only n few builder plan (DuplicateTest test) same built = let never : None ≡ Some (DuplicateTest test) = sym
    (same ∙ accepted n few) ∙ built in cc
memory_only n few builder plan (UnknownGroup test) same built = let never : None ≡ Some (UnknownGroup test) = sym
    (same ∙ accepted n few) ∙ built in cc
memory_only n few builder plan (ZeroWeight test) same built = let never : None ≡ Some (ZeroWeight test) = sym (same ∙
    accepted n few) ∙ built in cc
memory_only n few builder plan (TooManyRetries test) same built = let never : None ≡ Some (TooManyRetries test) = sym
    (same ∙ accepted n few) ∙ built in cc
