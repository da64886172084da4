-- Each rule that a test is held to is broken exactly where its definition says so.
use Rattle.std.proofs.Common.{◌≡◌, ℕ, ◌-◌, ◌^◌, ◌≤◌, ◌==◌, List, take, Bool, true, false, nat_eq, nat_le, Option, Some}
use Rattle.std.proofs.Common.{None, is_none, if◌then◌else◌, option_and_then, position, slice_get, unwrap_or}
use Rattle.std.proofs.Common.{refl, ap, sym, subst, ◌∙◌, arith}
use Rattle.std.specs.Bool.{Decides}
use Rattle.std.specs.Cmp.{unsigned_Decides}
use Rattle.std.specs.Option.{option_map_or}
use Rattle.std.specs.List.{list_any}
use Rattle.std.proofs.lemmas.Bool.{and_from, and_parts}
use Rattle.std.proofs.lemmas.Bool.Decides.{Decides-eqb}
use Rattle.std.proofs.lemmas.Option.{same_Some}
use lib.Pointwise.{pointwise, pointwise_decides}
use Rattle.run_events.specs.declared.plan.Group.{Group}
use Rattle.run_events.specs.declared.plan.Plan.{Plan}
use Rattle.run_events.specs.declared.plan.PlanTest.{PlanTest}
use Rattle.run_events.specs.declared.plan.TestInstanceId.{TestInstanceId}
use Rattle.run_events.specs.declared.retry_policy.RetryPolicy.{RetryPolicy}
use Rattle.run_admission.specs.InUse.{group_of}
use Rattle.run_model.specs.Backoff.{retry_count}
use Rattle.run_model.specs.Reruns.{is_one_test}
use Rattle.run_engine.specs.Builder.{Builder, has_too_many, is_among, is_repeat, names_no_group, refusal_at}
use Rattle.run_engine.specs.Builder.{test_refusal}
use Rattle.run_engine.specs.declared.errors.TestRunnerBuildError.{TestRunnerBuildError}
use Rattle.run_engine.specs.declared.errors.TestRunnerBuildError.TheVariants.{ZeroLimit, DuplicateTest, UnknownGroup}
use Rattle.run_engine.specs.declared.errors.TestRunnerBuildError.TheVariants.{ZeroWeight, TooManyRetries, OutOfMemory}
use Rattle.run_laws_build.specs.Refusals.{BreaksFirst, BreaksNone, HasTooManyRetries, NamesNoGroup, RepeatsId}
use Rattle.run_laws_build.specs.Refusals.{retries_held}
use Rattle.run_laws_build.proofs.FirstLemmas.{any_before, before_any, none_position, position_none}

-- two texts are the same, and two ids
text_so : (a b : List ℕ) → Decides (pointwise nat_eq a b) (a ≡ b)
text_so = pointwise_decides unsigned_Decides

id_so : (a b : TestInstanceId) → Decides (is_one_test a b) (a ≡ b)
id_so a b = (forward, back)
  where
    forward : is_one_test a b ≡ true → a ≡ b
    forward e =
        let parts = and_parts (pointwise nat_eq a.binary b.binary) (pointwise nat_eq a.name b.name) e in
        let binary : a.binary ≡ b.binary = (text_so a.binary b.binary).0 parts.0 in
        let name : a.name ≡ b.name = (text_so a.name b.name).0 parts.1 in
        ap (λ binary. record a { binary = binary }) binary ∙ ap (λ name. record b { name = name }) name

    back : a ≡ b → is_one_test a b ≡ true
    back e = and_from _ _ ((text_so a.binary b.binary).1 (ap (λ (i : TestInstanceId). i.binary) e))
        ((text_so a.name b.name).1 (ap (λ (i : TestInstanceId). i.name) e))

-- a test repeats an id
pub repeats_so : (tests : List PlanTest) (k : ℕ) (test : PlanTest) → slice_get tests k ≡ Some test
    → Decides (is_repeat tests k) (RepeatsId tests k test)
repeats_so tests k test at = (forward, back)
  where
    f : PlanTest → Bool
    f t = is_one_test t.id test.id

    is : is_repeat tests k ≡ list_any f (take k tests)
    is = ap (is_among (take k tests)) at

    forward : is_repeat tests k ≡ true → RepeatsId tests k test
    forward e =
        let h = any_before f tests k (sym is ∙ e) in
        record {
          place = h.place;
          earlier = h.earlier;
          other = h.item;
          there = h.there;
          same = (id_so h.item.id test.id).0 h.passes;
        }

    back : RepeatsId tests k test → is_repeat tests k ≡ true
    back h = is ∙ before_any f tests k h.place h.other h.earlier h.there ((id_so h.other.id test.id).1 h.same)

-- a test names no group of these
pub names_none_so : (groups : List Group) (test : PlanTest)
    → Decides (names_no_group groups test) (NamesNoGroup groups test)
names_none_so groups test = (forward test.group refl, back)
  where
    f : List ℕ → Group → Bool
    f name g = pointwise nat_eq g.name name

    not_so : (b : Bool) → (b ≡ true → ⊥) → b ≡ false
    not_so false h = refl
    not_so true h = absurd (h refl)

    forward : (o : Option (List ℕ)) → test.group ≡ o
        → option_map_or (λ name. is_none (group_of groups name)) o false ≡ true
        → NamesNoGroup groups test
    forward None is e = cc
    forward (Some name) is e = record {
      name = name;
      named = is;
      none = λ g group at same.
          let never : true ≡ false = sym ((text_so group.name name).1 same)
          ∙ position_none (f name) groups (none_there (position (f name) groups) e) g group at in cc;
    }
      where
        none_there : (o : Option ℕ) → is_none o ≡ true → o ≡ None
        none_there None e = refl
        none_there (Some n) e = cc

    back : NamesNoGroup groups test → names_no_group groups test ≡ true
    back h =
        ap (λ o. option_map_or (λ name. is_none (group_of groups name)) o false) h.named
        ∙ ap is_none (none_position (f h.name) groups (λ g group at.
        not_so (f h.name group) (λ e. h.none g group at ((text_so group.name h.name).0 e))))

-- a test has too many retries
pub many_so : (builder : Builder) (test : PlanTest)
    → Decides (has_too_many builder.retries test) (HasTooManyRetries builder test)
many_so builder test = by_set builder.retries
  where
    counted : (n : ℕ) → Decides (nat_le (2 ^ 32 - 1) n) (4294967295 ≤ n)
    counted n = (λ e. grind (arith, e), λ h. grind (arith, h))

    by_set : (o : Option RetryPolicy) → Decides (nat_le (2 ^ 32 - 1) (retry_count (unwrap_or o test.retries)))
        (4294967295 ≤ retry_count (retries_held o test))
    by_set None = counted (retry_count test.retries)
    by_set (Some retries) = counted (retry_count retries)

-- why a test is refused, by whether each rule is broken
fails : (P : Type 0) (b : Bool) → Decides b P → b ≡ false → P → ⊥
fails P b h is holds = let never : true ≡ false = sym (h.1 holds) ∙ is in cc

not_holds : (P : Type 0) (b : Bool) → Decides b P → (P → ⊥) → b ≡ false
not_holds P false h none = refl
not_holds P true h none = absurd (none (h.0 refl))

by_rules : ℕ → Bool → Bool → Bool → Bool → Option TestRunnerBuildError
by_rules k r g w m =
    if r then Some (DuplicateTest k) else
    (if g then Some (UnknownGroup k) else
    (if w then Some (ZeroWeight k) else (if m then Some (TooManyRetries k) else None)))

by_rules-is : (builder : Builder) (plan : Plan) (k : ℕ) (test : PlanTest) → slice_get plan.tests k ≡ Some test
    → test_refusal plan.groups builder.retries plan.tests k
    ≡ by_rules k (is_repeat plan.tests k) (names_no_group plan.groups test) (test.weight == 0)
    (has_too_many builder.retries test)
unfolding by_rules
by_rules-is builder plan k test at =
    ap (option_and_then (refusal_at k (is_repeat plan.tests k) plan.groups builder.retries)) at

-- the test at a place is refused for the rule that it breaks first, and not where it breaks none
pub breaks_so : (builder : Builder) (plan : Plan) (k : ℕ) (test : PlanTest) (e : TestRunnerBuildError)
    → slice_get plan.tests k ≡ Some test → test_refusal plan.groups builder.retries plan.tests k ≡ Some e
    → BreaksFirst builder plan k test e
unfolding by_rules
breaks_so builder plan k test e at is =
    by_case (is_repeat plan.tests k) (names_no_group plan.groups test) (test.weight == 0)
    (has_too_many builder.retries test) (repeats_so plan.tests k test at) (names_none_so plan.groups test)
    (Decides-eqb test.weight 0) (many_so builder test) (sym (by_rules-is builder plan k test at) ∙ is)
  where
    R : Type 0
    R = RepeatsId plan.tests k test

    G : Type 0
    G = NamesNoGroup plan.groups test

    W : Type 0
    W = test.weight ≡ 0

    M : Type 0
    M = HasTooManyRetries builder test

    by_case : (r g w m : Bool) → Decides r R → Decides g G → Decides w W → Decides m M → by_rules k r g w m ≡ Some e
        → BreaksFirst builder plan k test e
    by_case true g w m dr dg dw dm is =
        subst (BreaksFirst builder plan k test) (same_Some (DuplicateTest k) e is) (refl, dr.0 refl)
    by_case false true w m dr dg dw dm is =
        subst (BreaksFirst builder plan k test) (same_Some (UnknownGroup k) e is)
        (refl, fails R false dr refl, dg.0 refl)
    by_case false false true m dr dg dw dm is =
        subst (BreaksFirst builder plan k test) (same_Some (ZeroWeight k) e is)
        (refl, fails R false dr refl, fails G false dg refl, dw.0 refl)
    by_case false false false true dr dg dw dm is =
        subst (BreaksFirst builder plan k test) (same_Some (TooManyRetries k) e is)
        (refl, fails R false dr refl, fails G false dg refl, fails W false dw refl, dm.0 refl)
    by_case false false false false dr dg dw dm is = cc

pub so_refused : (builder : Builder) (plan : Plan) (k : ℕ) (test : PlanTest) (e : TestRunnerBuildError)
    → slice_get plan.tests k ≡ Some test → BreaksFirst builder plan k test e
    → test_refusal plan.groups builder.retries plan.tests k ≡ Some e
unfolding by_rules
so_refused builder plan k test e at breaks = by_rules-is builder plan k test at ∙ by_error e breaks
  where
    r : Bool
    r = is_repeat plan.tests k

    g : Bool
    g = names_no_group plan.groups test

    w : Bool
    w = test.weight == 0

    m : Bool
    m = has_too_many builder.retries test

    no_id : (RepeatsId plan.tests k test → ⊥) → r ≡ false
    no_id none = not_holds (RepeatsId plan.tests k test) r (repeats_so plan.tests k test at) none

    no_group : (NamesNoGroup plan.groups test → ⊥) → g ≡ false
    no_group none = not_holds (NamesNoGroup plan.groups test) g (names_none_so plan.groups test) none

    some_weight : (test.weight ≡ 0 → ⊥) → w ≡ false
    some_weight none = not_holds (test.weight ≡ 0) w (Decides-eqb test.weight 0) none

    by_error : (e : TestRunnerBuildError) → BreaksFirst builder plan k test e → by_rules k r g w m ≡ Some e
    by_error (DuplicateTest n) (here, id) =
        ap (λ r. by_rules k r g w m) ((repeats_so plan.tests k test at).1 id)
        ∙ ap (λ n. Some (DuplicateTest n)) (sym here)
    by_error (UnknownGroup n) (here, id, group) =
        ap (λ r. by_rules k r g w m) (no_id id)
        ∙ ap (λ g. by_rules k false g w m) ((names_none_so plan.groups test).1 group)
        ∙ ap (λ n. Some (UnknownGroup n)) (sym here)
    by_error (ZeroWeight n) (here, id, group, weight) =
        ap (λ r. by_rules k r g w m) (no_id id)
        ∙ ap (λ g. by_rules k false g w m) (no_group group)
        ∙ ap (λ w. by_rules k false false w m) ((Decides-eqb test.weight 0).1 weight)
        ∙ ap (λ n. Some (ZeroWeight n)) (sym here)
    by_error (TooManyRetries n) (here, id, group, weight, many) =
        ap (λ r. by_rules k r g w m) (no_id id)
        ∙ ap (λ g. by_rules k false g w m) (no_group group)
        ∙ ap (λ w. by_rules k false false w m) (some_weight weight)
        ∙ ap (λ m. by_rules k false false false m) ((many_so builder test).1 many)
        ∙ ap (λ n. Some (TooManyRetries n)) (sym here)
    by_error (ZeroLimit group) none = absurd none
    by_error OutOfMemory none = absurd none

pub none_so : (builder : Builder) (plan : Plan) (k : ℕ) (test : PlanTest) → slice_get plan.tests k ≡ Some test
    → test_refusal plan.groups builder.retries plan.tests k ≡ None → BreaksNone builder plan k test
unfolding by_rules
none_so builder plan k test at is =
    by_case (is_repeat plan.tests k) (names_no_group plan.groups test) (test.weight == 0)
    (has_too_many builder.retries test) (repeats_so plan.tests k test at) (names_none_so plan.groups test)
    (Decides-eqb test.weight 0) (many_so builder test) (sym (by_rules-is builder plan k test at) ∙ is)
  where
    by_case : (r g w m : Bool) → Decides r (RepeatsId plan.tests k test) → Decides g (NamesNoGroup plan.groups test)
        → Decides w (test.weight ≡ 0) → Decides m (HasTooManyRetries builder test) → by_rules k r g w m ≡ None
        → BreaksNone builder plan k test
    by_case true g w m dr dg dw dm is = cc
    by_case false true w m dr dg dw dm is = cc
    by_case false false true m dr dg dw dm is = cc
    by_case false false false true dr dg dw dm is = cc
    by_case false false false false dr dg dw dm is = record {
      id = fails (RepeatsId plan.tests k test) false dr refl;
      group = fails (NamesNoGroup plan.groups test) false dg refl;
      weight = fails (test.weight ≡ 0) false dw refl;
      retries = fails (HasTooManyRetries builder test) false dm refl;
    }

pub so_none : (builder : Builder) (plan : Plan) (k : ℕ) (test : PlanTest) → slice_get plan.tests k ≡ Some test
    → BreaksNone builder plan k test → test_refusal plan.groups builder.retries plan.tests k ≡ None
unfolding by_rules
so_none builder plan k test at h =
    by_rules-is builder plan k test at
    ∙ ap (λ r. by_rules k r (names_no_group plan.groups test) (test.weight == 0) (has_too_many builder.retries test))
    (not_holds (RepeatsId plan.tests k test) _ (repeats_so plan.tests k test at) h.id)
    ∙ ap (λ g. by_rules k false g (test.weight == 0) (has_too_many builder.retries test))
    (not_holds (NamesNoGroup plan.groups test) _ (names_none_so plan.groups test) h.group)
    ∙ ap (λ w. by_rules k false false w (has_too_many builder.retries test))
    (not_holds (test.weight ≡ 0) _ (Decides-eqb test.weight 0) h.weight)
    ∙ ap (λ m. by_rules k false false false m)
    (not_holds (HasTooManyRetries builder test) _ (many_so builder test) h.retries)
