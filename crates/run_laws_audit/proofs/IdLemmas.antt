-- A unit that an event names is one of the plan, a test by its id and a script by its number.
use Rattle.std.proofs.Common.{◌≡◌, ℕ, ◌-◌, ◌<◌, ◌==◌, nat_lt, List, map, length, get_or, Bool, true, false}
use Rattle.std.proofs.Common.{if◌then◌else◌, Option, Some, None, option_map, slice_get, refl, ap, sym, subst, ◌∙◌}
use Rattle.std.proofs.Common.{arith}
use Rattle.std.specs.Cmp.{first_so, second_so}
use Rattle.std.specs.List.{IsDistinct}
use Rattle.std.proofs.lemmas.Bool.Decides.{nat_tests}
use Rattle.std.proofs.lemmas.Map.Keys.{apart_from_distinct}
use Rattle.std.proofs.lemmas.Option.{get_or_from_slice_get, slice_get-map, slice_get_within}
use Rattle.std.proofs.lemmas.Slice.Eq.{bytes_eq-Decides}
use Rattle.run_events.specs.declared.message.ScriptUnit.{ScriptUnit}
use Rattle.run_events.specs.declared.message.TestUnit.{TestUnit}
use Rattle.run_events.specs.declared.plan.PlanScript.{PlanScript}
use Rattle.run_events.specs.declared.plan.PlanTest.{PlanTest}
use Rattle.run_events.specs.declared.plan.TestInstanceId.{TestInstanceId}
use Rattle.run_events.specs.declared.settings.Settings.{Settings}
use Rattle.run_events.specs.declared.stress.StressIndex.{StressIndex}
use Rattle.run_model.specs.Admission.{is_script, scripts_in, tests_in, unit_of_test, units_in}
use Rattle.run_model.specs.Reruns.{is_one_test}
use Rattle.run_laws_events.specs.Names.{IsScriptNamed, IsTestNamed, script_named, test_named}

-- the ids of tests
abbrev pub ids_of : List PlanTest → List TestInstanceId
ids_of tests = map (λ (test : PlanTest). test.id) tests

abbrev id_with : List ℕ → List ℕ → TestInstanceId
id_with binary name = record { binary = binary; name = name }

-- ids of one test are equal
pub id_is : (a b : TestInstanceId) → is_one_test a b ≡ true → a ≡ b
id_is a b e =
    ap (λ binary. id_with binary a.name) ((bytes_eq-Decides a.binary b.binary).0 (first_so _ _ e))
    ∙ ap (id_with b.binary) ((bytes_eq-Decides a.name b.name).0 (second_so _ _ e))

pub id_itself : (a : TestInstanceId) → is_one_test a a ≡ true
id_itself a =
    let binary = (bytes_eq-Decides a.binary a.binary).1 refl in
    let name = (bytes_eq-Decides a.name a.name).1 refl in
    rw (binary, name) refl

id_at : (tests : List PlanTest) (i : ℕ) (test : PlanTest) (d : TestInstanceId) → slice_get tests i ≡ Some test
    → get_or (ids_of tests) i d ≡ test.id
id_at tests i test d there =
    get_or_from_slice_get (ids_of tests) i test.id d
    (slice_get-map (λ (test : PlanTest). test.id) tests i ∙ ap (option_map (λ (test : PlanTest). test.id)) there)

id_within : (tests : List PlanTest) (i : ℕ) (test : PlanTest) → slice_get tests i ≡ Some test
    → i < length (ids_of tests)
id_within tests i test there =
    slice_get_within (ids_of tests) i test.id
    (slice_get-map (λ (test : PlanTest). test.id) tests i ∙ ap (option_map (λ (test : PlanTest). test.id)) there)

-- of two places with one id none is before the other
not_before : (tests : List PlanTest) (i j : ℕ) (s t : PlanTest) → IsDistinct is_one_test (ids_of tests)
    → slice_get tests i ≡ Some s → slice_get tests j ≡ Some t → s.id ≡ t.id → nat_lt i j ≡ false
not_before tests i j s t once at_i at_j same = by_order (nat_lt i j) refl
  where
    by_order : (b : Bool) → nat_lt i j ≡ b → b ≡ false
    by_order false e = refl
    by_order true e =
        let below : i < j = grind arith in
        let here : get_or (ids_of tests) i t.id ≡ t.id = id_at tests i s t.id at_i ∙ same in
        let apart : is_one_test t.id t.id ≡ false =
        subst (λ a. is_one_test a t.id ≡ false) here
        (subst (λ b. is_one_test (get_or (ids_of tests) i t.id) b ≡ false) (id_at tests j t t.id at_j)
        (apart_from_distinct is_one_test (ids_of tests) i j t.id once below (id_within tests j t at_j))) in
        sym (id_itself t.id) ∙ apart

-- so two places with one id are one, where each id stands once
pub same_place : (tests : List PlanTest) (i j : ℕ) (s t : PlanTest) → IsDistinct is_one_test (ids_of tests)
    → slice_get tests i ≡ Some s → slice_get tests j ≡ Some t → s.id ≡ t.id → i ≡ j
same_place tests i j s t once at_i at_j same =
    let first : nat_lt i j ≡ false = not_before tests i j s t once at_i at_j same in
    let second : nat_lt j i ≡ false = not_before tests j i t s once at_j at_i (sym same) in
    grind (arith, nat_tests)

-- a test that is named as the plan has it stands in the plan, with its id
pub record IsPlanned (p : Settings) (unit : TestUnit) : Type 0 where
  pub place : ℕ
  pub test : PlanTest
  pub there : slice_get p.plan.tests place ≡ Some test
  pub number : unit.unit ≡ unit_of_test p place
  pub id : unit.id ≡ test.id

pub planned : (p : Settings) (index : Option StressIndex) (unit : TestUnit) → IsTestNamed p index unit
    → IsPlanned p unit
planned p index unit named = by_kind (is_script p unit.unit) refl named
  where
    id_in : Option TestUnit → TestInstanceId → TestInstanceId
    id_in None other = other
    id_in (Some unit) other = unit.id

    by_test : is_script p unit.unit ≡ false → (o : Option PlanTest)
        → slice_get p.plan.tests (unit.unit - scripts_in p) ≡ o
        → option_map (test_named index unit.unit) o ≡ Some unit → IsPlanned p unit
    by_test above None there named = cc
    by_test above (Some test) there named = record {
      place = unit.unit - scripts_in p;
      test = test;
      there = there;
      number = grind (arith, nat_tests);
      id = ap (λ o. id_in o test.id) (sym named);
    }

    by_kind : (b : Bool) → is_script p unit.unit ≡ b
        → option_map (test_named index unit.unit)
        (if b then None else slice_get p.plan.tests (unit.unit - scripts_in p)) ≡ Some unit → IsPlanned p unit
    by_kind true script named = cc
    by_kind false test named = by_test test (slice_get p.plan.tests (unit.unit - scripts_in p)) refl named

-- it has the id of a test of the plan exactly where it is that one
pub names_test : (p : Settings) (index : Option StressIndex) (j : ℕ) (test : PlanTest) (unit : TestUnit)
    → IsDistinct is_one_test (ids_of p.plan.tests) → slice_get p.plan.tests j ≡ Some test → IsTestNamed p index unit
    → is_one_test unit.id test.id ≡ (unit.unit == unit_of_test p j)
names_test p index j test unit once there named =
    by_unit (unit.unit == unit_of_test p j) refl (is_one_test unit.id test.id) refl
  where
    it : IsPlanned p unit
    it = planned p index unit named

    by_unit : (b : Bool) → (unit.unit == unit_of_test p j) ≡ b → (c : Bool) → is_one_test unit.id test.id ≡ c → c ≡ b
    by_unit true e true f = refl
    by_unit false e false f = refl
    by_unit true e false f =
        let here : it.place ≡ j = let number = it.number in grind arith in
        let one : Some it.test ≡ Some test = sym it.there ∙ ap (slice_get p.plan.tests) here ∙ there in
        let plan : it.test ≡ test = cc in
        let id : unit.id ≡ test.id = it.id ∙ ap (λ (t : PlanTest). t.id) plan in
        sym f ∙ ap (λ id. is_one_test id test.id) id ∙ id_itself test.id
    by_unit false e true f =
        let id : it.test.id ≡ test.id = sym it.id ∙ id_is unit.id test.id f in
        let here : it.place ≡ j = same_place p.plan.tests it.place j it.test test once it.there there id in
        let number : unit.unit ≡ unit_of_test p j = it.number ∙ ap (unit_of_test p) here in
        grind arith

-- a script that is named as the plan has it is no test of it, and its place is its number
pub record IsPlannedScript (p : Settings) (unit : ScriptUnit) : Type 0 where
  pub below : unit.unit < scripts_in p
  pub index : unit.index ≡ unit.unit

pub planned_script : (p : Settings) (index : Option StressIndex) (unit : ScriptUnit) → IsScriptNamed p index unit
    → IsPlannedScript p unit
planned_script p index unit named = by_script (slice_get p.plan.scripts unit.unit) refl named
  where
    index_in : Option ScriptUnit → ℕ → ℕ
    index_in None other = other
    index_in (Some unit) other = unit.index

    by_script : (o : Option PlanScript) → slice_get p.plan.scripts unit.unit ≡ o
        → option_map (script_named p index unit.unit) o ≡ Some unit → IsPlannedScript p unit
    by_script None there named = cc
    by_script (Some script) there named = record {
      below = slice_get_within p.plan.scripts unit.unit script there;
      index = ap (λ o. index_in o unit.unit) (sym named);
    }

pub script_apart : (p : Settings) (index : Option StressIndex) (unit : ScriptUnit) (j : ℕ) → IsScriptNamed p index unit
    → (unit.unit == unit_of_test p j) ≡ false
script_apart p index unit j named =
    let below : unit.unit < scripts_in p = (planned_script p index unit named).below in grind (arith, nat_tests)

-- the unit of a test of the plan is one of its units
pub test_within : (p : Settings) (j : ℕ) (test : PlanTest) → slice_get p.plan.tests j ≡ Some test
    → unit_of_test p j < units_in p
test_within p j test there =
    let within : j < tests_in p = slice_get_within p.plan.tests j test there in omega arith
