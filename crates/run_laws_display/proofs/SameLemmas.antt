-- Ids of tests that are the same, and units of the plan that have them.
use Rattle.std.proofs.Common.{◌≡◌, ℕ, ◌-◌, ◌<◌, ◌==◌, nat_lt, List, map, length, get_or, Bool, true, false}
use Rattle.std.proofs.Common.{if◌then◌else◌, Option, Some, None, option_map, slice_get, refl, ap, sym, subst, ◌∙◌}
use Rattle.std.proofs.Common.{arith}
use Rattle.std.specs.Cmp.{first_so, second_so}
use Rattle.std.specs.List.{IsDistinct}
use Rattle.std.proofs.lemmas.Bool.Decides.{nat_tests}
use Rattle.std.proofs.lemmas.Map.Keys.{apart_from_distinct}
use Rattle.std.proofs.lemmas.Option.{get_or_from_slice_get, slice_get-map, slice_get_within}
use Rattle.std.proofs.lemmas.Slice.Eq.{bytes_eq-Decides}
use Rattle.run_events.specs.declared.message.TestUnit.{TestUnit}
use Rattle.run_events.specs.declared.plan.PlanTest.{PlanTest}
use Rattle.run_events.specs.declared.plan.TestInstanceId.{TestInstanceId}
use Rattle.run_events.specs.declared.settings.Settings.{Settings}
use Rattle.run_events.specs.declared.stress.StressIndex.{StressIndex}
use Rattle.run_model.specs.Admission.{is_script, scripts_in, tests_in, units_in}
use Rattle.run_progress.specs.Deeds.{is_same}
use Rattle.run_laws_events.specs.Names.{IsTestNamed, test_named, test_of_unit}
use Rattle.run_model.specs.Once.{HasEachIdOnce}
use Rattle.run_engine.proofs.OnceLemmas.{id_at, ids_of}

abbrev id_with : List ℕ → List ℕ → TestInstanceId
id_with binary name = record { binary = binary; name = name }

pub same_is : (a b : TestInstanceId) → is_same a b ≡ true → a ≡ b
same_is a b e =
    ap (λ binary. id_with binary a.name) ((bytes_eq-Decides a.binary b.binary).0 (first_so _ _ e))
    ∙ ap (id_with b.binary) ((bytes_eq-Decides a.name b.name).0 (second_so _ _ e))

pub same_itself : (a : TestInstanceId) → is_same a a ≡ true
same_itself a =
    let binary = (bytes_eq-Decides a.binary a.binary).1 refl in
    let name = (bytes_eq-Decides a.name a.name).1 refl in
    rw (binary, name) refl

-- whether two ids are the same doesn't depend on their order
pub same_flips : (a b : TestInstanceId) → is_same a b ≡ true → is_same b a ≡ true
same_flips a b e = subst (λ c. is_same c a ≡ true) (same_is a b e) (same_itself a)

-- a unit of the plan that is a test, by its place
pub test_at : (p : Settings) (k : ℕ) (test : PlanTest) → test_of_unit p k ≡ Some test
    → (is_script p k ≡ false) × (slice_get p.plan.tests (k - scripts_in p) ≡ Some test)
test_at p k test there = by_kind (is_script p k) there
  where
    by_kind : (b : Bool) → (if b then None else slice_get p.plan.tests (k - scripts_in p)) ≡ Some test
        → (b ≡ false) × (slice_get p.plan.tests (k - scripts_in p) ≡ Some test)
    by_kind true there = cc
    by_kind false there = (refl, there)

-- it is one of its units
pub test_planned : (p : Settings) (k : ℕ) (test : PlanTest) → test_of_unit p k ≡ Some test → k < units_in p
test_planned p k test there =
    let it = test_at p k test there in
    let within : k - scripts_in p < tests_in p = slice_get_within p.plan.tests (k - scripts_in p) test it.1 in
    let above : nat_lt k (scripts_in p) ≡ false = it.0 in
    grind (arith, nat_tests)

id_within : (tests : List PlanTest) (i : ℕ) (test : PlanTest) → slice_get tests i ≡ Some test
    → i < length (ids_of tests)
id_within tests i test there =
    slice_get_within (ids_of tests) i test.id
    (slice_get-map (λ (test : PlanTest). test.id) tests i ∙ ap (option_map (λ (test : PlanTest). test.id)) there)

-- of two places with one id none is before the other
not_before : (tests : List PlanTest) (i j : ℕ) (s t : PlanTest) → IsDistinct is_same (ids_of tests)
    → slice_get tests i ≡ Some s → slice_get tests j ≡ Some t → s.id ≡ t.id → nat_lt i j ≡ false
not_before tests i j s t once at_i at_j same = by_order (nat_lt i j) refl
  where
    by_order : (b : Bool) → nat_lt i j ≡ b → b ≡ false
    by_order false e = refl
    by_order true e =
        let below : i < j = grind arith in
        let here : get_or (ids_of tests) i t.id ≡ t.id = id_at tests i s t.id at_i ∙ same in
        let apart : is_same t.id t.id ≡ false =
        subst (λ a. is_same a t.id ≡ false) here
        (subst (λ b. is_same (get_or (ids_of tests) i t.id) b ≡ false) (id_at tests j t t.id at_j)
        (apart_from_distinct is_same (ids_of tests) i j t.id once below (id_within tests j t at_j))) in
        sym (same_itself t.id) ∙ apart

-- two units with one id are one, where the plan has each id once
pub same_unit : (p : Settings) (j k : ℕ) (s t : PlanTest) → HasEachIdOnce p → test_of_unit p j ≡ Some s
    → test_of_unit p k ≡ Some t → s.id ≡ t.id → j ≡ k
same_unit p j k s t once at_j at_k same =
    let here = test_at p j s at_j in
    let there = test_at p k t at_k in
    let first = not_before p.plan.tests (j - scripts_in p) (k - scripts_in p) s t once here.1 there.1 same in
    let second = not_before p.plan.tests (k - scripts_in p) (j - scripts_in p) t s once there.1 here.1 (sym same) in
    by_order first second here.0 there.0
  where
    by_order : nat_lt (j - scripts_in p) (k - scripts_in p) ≡ false
        → nat_lt (k - scripts_in p) (j - scripts_in p) ≡ false → nat_lt j (scripts_in p) ≡ false
        → nat_lt k (scripts_in p) ≡ false → j ≡ k
    by_order first second above_j above_k = grind arith

-- the test that an event names
pub unit_named : (p : Settings) (index : Option StressIndex) (unit : TestUnit) → IsTestNamed p index unit
    → (s : PlanTest) × ((test_of_unit p unit.unit ≡ Some s) × (unit.id ≡ s.id))
unit_named p index unit named = by_test (test_of_unit p unit.unit) named
  where
    id_in : Option TestUnit → TestInstanceId → TestInstanceId
    id_in None other = other
    id_in (Some unit) other = unit.id

    by_test : (o : Option PlanTest) → option_map (test_named index unit.unit) o ≡ Some unit
        → (s : PlanTest) × ((o ≡ Some s) × (unit.id ≡ s.id))
    by_test None named = cc
    by_test (Some s) named = (s, (refl, ap (λ o. id_in o s.id) (sym named)))

-- a test has the id of unit k exactly where it is that unit
pub named_same : (p : Settings) (index : Option StressIndex) (k : ℕ) (test : PlanTest) (unit : TestUnit)
    → HasEachIdOnce p → test_of_unit p k ≡ Some test → IsTestNamed p index unit
    → is_same test.id unit.id ≡ (unit.unit == k)
named_same p index k test unit once there named = by_unit (unit.unit == k) refl (is_same test.id unit.id) refl
  where
    it : (s : PlanTest) × ((test_of_unit p unit.unit ≡ Some s) × (unit.id ≡ s.id))
    it = unit_named p index unit named

    by_unit : (b : Bool) → (unit.unit == k) ≡ b → (c : Bool) → is_same test.id unit.id ≡ c → c ≡ b
    by_unit true e true f = refl
    by_unit false e false f = refl
    by_unit true e false f =
        let here : unit.unit ≡ k = grind arith in
        let one : Some it.0 ≡ Some test = sym it.1.0 ∙ ap (test_of_unit p) here ∙ there in
        let plan : it.0 ≡ test = cc in
        let id : unit.id ≡ test.id = it.1.1 ∙ ap (λ (t : PlanTest). t.id) plan in
        sym f ∙ ap (is_same test.id) id ∙ same_itself test.id
    by_unit false e true f =
        let id : it.0.id ≡ test.id = sym it.1.1 ∙ sym (same_is test.id unit.id f) in
        let here : unit.unit ≡ k = same_unit p unit.unit k it.0 test once it.1.0 there id in
        grind arith
