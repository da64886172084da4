-- The members of a plan line as those of a rerun are put there.
use Rattle.std.proofs.Common.{◌≡◌, ◌∙◌, ℕ, List, [], ◌∷◌, ◌++◌, map, Bool, true, false, not, refl, sym, ap, codes, cond}
use Rattle.std.proofs.Common.{true≢false, is_some, length, arith, rules}
use Rattle.std.proofs.lemmas.List.{append-nil}
use Rattle.std.proofs.Common.{Option, Some, None, option_map, unwrap_or, String, BTreeMap, Global, string_bytes}
use Rattle.std.proofs.Common.{string_cmp}
use Rattle.std.specs.BTreeMap.{insert_entry}
use Rattle.std.specs.BTreeMap as map_of
use Rattle.serde_json.specs.Data.{Data, null, boolean, number, string, array, object, Items, no_items, item, Members}
use Rattle.serde_json.specs.Data.{put}
use Rattle.serde_json.specs.Find.{get, get_member}
use Rattle.serde_json.specs.View.{items_of, items_view, members_view, view}
use Rattle.serde_json.specs.declared.value.Value.{Null, Value, the_lemmas}
use Rattle.serde_json.proofs.Views.{Entry, members_view-insert_entry, view-lookup}
use Rattle.run_events.specs.declared.plan.TestInstanceId.{TestInstanceId}
use Rattle.run_input.specs.PlanTest.{id_of}
use Rattle.run_output.specs.Fields.{array_of}
use Rattle.run_output.specs.Texts.{test_data}
use Rattle.run_rerun.specs.Made.{is_to_skip, made, made_items, made_test, made_tests, with_member}
use Rattle.run_rerun.specs.Outstanding.{has_id}
use Rattle.run_rerun.proofs.MemberLemmas.{put-put}

-- what stands for null
pub view-Null : view Null ≡ null
view-Null = search (rules, the_lemmas)

-- the members of a map with one more entry
pub put_entry : (old new : List Entry) (name : String Global) (value : Value) (key : List ℕ) → string_bytes name ≡ key
    → new ≡ insert_entry string_cmp old name value
    → members_view new ≡ put key (view value) (members_view old)
put_entry old new name value key named is =
    ap members_view is ∙ members_view-insert_entry old name value
    ∙ ap (λ k. put k (view value) (members_view old)) named

-- what was there
pub was_entry : (old : BTreeMap (String Global) Value) (name : String Global) (key : List ℕ) (was : Option Value)
    → string_bytes name ≡ key → was ≡ map_of.get string_cmp old name
    → option_map view was ≡ get_member key (members_view old.entries)
was_entry old name key was named is =
    ap (option_map view) is ∙ view-lookup (string_bytes name) old.entries
    ∙ ap (λ k. get_member k (members_view old.entries)) named

skip_same : (some ids : List TestInstanceId) → ((q : TestInstanceId) → has_id some q ≡ has_id ids q)
    → (id : Option TestInstanceId) (skip : Option Data) → is_to_skip some id skip ≡ is_to_skip ids id skip
skip_same some ids same (Some id) None = ap not (same id)
skip_same some ids same (Some id) (Some skip) = refl
skip_same some ids same None skip = refl

items_same : (some ids : List TestInstanceId) → ((q : TestInstanceId) → has_id some q ≡ has_id ids q)
    → (ds : Items) → made_items some ds ≡ made_items ids ds
items_same some ids same no_items = refl
items_same some ids same (item d ds) =
    ap (λ b. item (cond b (with_member (codes "skip") (string (codes "rerun")) d) d) (made_items some ds))
    (skip_same some ids same (id_of d) (get (codes "skip") d))
    ∙ ap (item (made_test ids d)) (items_same some ids same ds)

tests_same : (some ids : List TestInstanceId) → ((q : TestInstanceId) → has_id some q ≡ has_id ids q)
    → (d : Data) → made_tests some d ≡ made_tests ids d
tests_same some ids same null = refl
tests_same some ids same (boolean b) = refl
tests_same some ids same (number n) = refl
tests_same some ids same (string s) = refl
tests_same some ids same (array ds) = ap array (items_same some ids same ds)
tests_same some ids same (object ms) = refl

-- the members of a plan line, with its tests taken out, made anew and put back, and with those that are expected
pub members_made : (some ids : List TestInstanceId) → ((q : TestInstanceId) → has_id some q ≡ has_id ids q)
    → (first taken back last : Members) (was tests expected : Data) → taken ≡ put (codes "tests") null first
    → was ≡ unwrap_or (get_member (codes "tests") first) null → tests ≡ made_tests some was
    → back ≡ put (codes "tests") tests taken → expected ≡ array_of test_data ids
    → last ≡ put (codes "expected") expected back → object last ≡ made ids (object first)
members_made some ids same first taken back last was tests expected taken_is was_is tests_is back_is expected_is
    last_is =
    let all : tests ≡ made_tests ids (unwrap_or (get_member (codes "tests") first) null) =
    tests_is ∙ tests_same some ids same was ∙ ap (made_tests ids) was_is in
    let put_back :
    back ≡ put (codes "tests") (made_tests ids (unwrap_or (get_member (codes "tests") first) null)) first =
    back_is ∙ ap (put (codes "tests") tests) taken_is ∙ put-put (codes "tests") null tests first
    ∙ ap (λ t. put (codes "tests") t first) all in
    ap object (last_is ∙ ap (λ e. put (codes "expected") e back) expected_is
    ∙ ap (put (codes "expected") (array_of test_data ids)) put_back)

-- a value that may be missing, and is null where it is
pub or_null : (was : Option Value) (found : Option Data) → option_map view was ≡ found
    → (value : Value) → (found ≡ None → view value ≡ null) → view (unwrap_or was value) ≡ unwrap_or found null
or_null None found is value none = none (sym is) ∙ ap (λ o. unwrap_or o null) is
or_null (Some v) found is value none = ap (λ o. unwrap_or o null) is

-- whether a test is to be skipped, by what was found of its skip
pub skips : {V : Type 0} (f : V → Data) (set : List TestInstanceId) (i : Option TestInstanceId) (s : Option Data)
    (id : TestInstanceId) (found : Option V) (none result : Bool) → i ≡ Some id → option_map f found ≡ s
    → is_some found ≡ not none → none ≡ true → result ≡ not (has_id set id) → result ≡ is_to_skip set i s
skips f set i s id found none result id_is found_is some_is missing is =
    is ∙ by found found_is (some_is ∙ ap not missing) ∙ ap (λ i. is_to_skip set i s) (sym id_is)
  where
    by : (found : Option _) → option_map f found ≡ s → is_some found ≡ false
        → not (has_id set id) ≡ is_to_skip set (Some id) s
    by None e lacks = ap (λ s. is_to_skip set (Some id) s) e
    by (Some v) e lacks = absurd (true≢false lacks)

pub stays : {V : Type 0} (f : V → Data) (set : List TestInstanceId) (i : Option TestInstanceId) (s : Option Data)
    (id : TestInstanceId) (found : Option V) (none result : Bool) → i ≡ Some id → option_map f found ≡ s
    → is_some found ≡ not none → none ≡ false → result ≡ false → result ≡ is_to_skip set i s
stays f set i s id found none result id_is found_is some_is there is =
    is ∙ by found found_is (some_is ∙ ap not there) ∙ ap (λ i. is_to_skip set i s) (sym id_is)
  where
    by : (found : Option _) → option_map f found ≡ s → is_some found ≡ true
        → false ≡ is_to_skip set (Some id) s
    by None e has = absurd (true≢false (sym has))
    by (Some v) e has = ap (λ s. is_to_skip set (Some id) s) e

-- all tests were made
pub items_done : (set : List TestInstanceId) (tests made_values rest : List Value)
    → map view made_values ++ map (λ v. made_test set (view v)) rest ≡ map (λ v. made_test set (view v)) tests
    → length rest ≡ 0 → items_view made_values ≡ made_items set (items_view tests)
items_done set tests made_values [] h none =
    ap items_of (sym (append-nil (map view made_values)) ∙ h) ∙ fused tests
  where
    fused : (tests : List Value) → items_of (map (λ v. made_test set (view v)) tests)
        ≡ made_items set (items_of (map view tests))
    fused [] = refl
    fused (t ∷ tests) = ap (item (made_test set (view t))) (fused tests)
items_done set tests made_values (v ∷ rest) h none = absurd (omega (arith, none))
