-- Each unit that was admitted is one of the plan: it is named so, and goes by its settings.
use Rattle.std.specs.Prelude.{⊤}
use Rattle.std.proofs.Common.{◌≡◌, ◌⊎◌, inl, inr, ℕ, ◌+◌, ◌==◌, List, [], ◌∷◌, ◌++◌, Bool, true, false, if◌then◌else◌}
use Rattle.std.proofs.Common.{Option, Some, None, option_map, slice_get, unwrap_or, refl, ap, sym, subst}
use Rattle.std.proofs.lemmas.Option.{same_Some}
use Rattle.run_commands.specs.TargetRunner.{runner_for}
use Rattle.run_events.specs.declared.plan.GroupSlot.{GroupSlot}
use Rattle.run_events.specs.declared.plan.PlanTest.{PlanTest}
use Rattle.run_events.specs.declared.plan.TestSlotAssignment.{TestSlotAssignment}
use Rattle.run_events.specs.declared.request.Request.{Request}
use Rattle.run_events.specs.declared.result.FlakyResult.{FlakyResult}
use Rattle.run_events.specs.declared.retry_policy.RetryPolicy.{RetryPolicy}
use Rattle.run_events.specs.declared.settings.Settings.{Settings}
use Rattle.run_model.specs.declared.happening.Happening.{Happening}
use Rattle.run_model.specs.declared.happening.UnitPart.{UnitPart}
use Rattle.run_model.specs.declared.happening.UnitPart.TheVariants.{Joins, Acts}
use Rattle.run_model.specs.declared.unit_turn.UnitTurn.{UnitTurn}
use Rattle.run_model.specs.declared.unit_view.AttemptTerms.{AttemptTerms}
use Rattle.run_model.specs.declared.unit_view.TestRole.{TestRole}
use Rattle.run_model.specs.declared.unit_view.UnitRole.{UnitRole}
use Rattle.run_model.specs.declared.unit_view.UnitRole.TheVariants as roles
use Rattle.run_model.specs.declared.unit_view.UnitView.{UnitView}
use Rattle.run_model.specs.Admission.{first_view, global_slot, group_slot, handed_to, newcomer, Newcomer, runner_words}
use Rattle.run_model.specs.Admission.{slots_of, unit_of_test}
use Rattle.run_commands.specs.Pair.{Pair}
use Rattle.run_model.specs.Environment.{attempts_by, number}
use Rattle.run_model.specs.Unit.{at_moment, is_live, reach, row}
use Rattle.run_model.specs.Words.{unit_after, unit_of, units}
use Rattle.run_laws.proofs.board.Newcomers.{Becomes, Newcomes, ScriptComes, newcomer_is, place-of_test, test_number}
use Rattle.run_laws.proofs.units.OpenRows.{Keeps}
use Rattle.run_laws.proofs.units.Rows.{row_keeps}
use Rattle.run_laws_events.specs.Names.{planned_attempts, planned_flaky, planned_retries, script_named, test_named}
use Rattle.run_laws_events.specs.Names.{test_of_unit, IsScriptNamed}
use Rattle.run_laws_events.proofs.ByJournal.{IsKept}
use Rattle.run_laws_events.proofs.Joined.{joins_new}
use Rattle.run_events.specs.declared.stress.StressIndex.{StressIndex}
use Rattle.run_laws.proofs.board.OnBoard.{index_in}

-- a test's unit, with these words and on these terms, is that of the plan's test of its number
pub record IsTestUnit (p : Settings) (t : TestRole) (words : List (List ℕ)) (terms : AttemptTerms) : Type 0 where
  pub test : PlanTest
  pub planned : test_of_unit p t.test.unit ≡ Some test
  pub name : t.test ≡ test_named t.test.stress_index t.test.unit test
  pub flaky : t.flaky ≡ planned_flaky p.flaky_result test
  pub command : words ≡ runner_words (runner_for p.plan.runners test.platform) ++ test.command
  pub attempts : attempts_by terms.retries ≡ planned_attempts p test
  pub group : (g : GroupSlot) → t.slot.group ≡ Some g → test.group ≡ Some g.name

abbrev pub IsUnitAs : Settings → UnitRole → List (List ℕ) → AttemptTerms → Type 0
IsUnitAs p (roles.Test t) words terms = IsTestUnit p t words terms
IsUnitAs p (roles.Script s) words terms = IsScriptNamed p s.script.stress_index s.script

abbrev pub IsPlanUnit : Settings → UnitView → Type 0
IsPlanUnit p u = IsUnitAs p u.role u.command u.terms

abbrev pub IsPlanUnitIf : Settings → Option UnitView → Type 0
IsPlanUnitIf p None = ⊤
IsPlanUnitIf p (Some u) = IsPlanUnit p u

-- each unit that was admitted
abbrev pub ArePlanUnits : Settings → List Happening → Type 0
ArePlanUnits p run = (k : ℕ) → IsPlanUnitIf p (unit_of k run)

-- the plan's test at a place is that of its unit's number
pub test_there : (p : Settings) (j : ℕ) (test : PlanTest) → slice_get p.plan.tests j ≡ Some test
    → test_of_unit p (unit_of_test p j) ≡ Some test
test_there p j test is = rw (test_number p j, place-of_test p j) is

flaky_so : (o : Option FlakyResult) (test : PlanTest) → unwrap_or o test.flaky ≡ planned_flaky o test
flaky_so None test = refl
flaky_so (Some flaky) test = refl

attempts_so : (o : Option RetryPolicy) (test : PlanTest)
    → attempts_by (unwrap_or o test.retries) ≡ planned_retries o test + 1
attempts_so None test = refl
attempts_so (Some retries) test = refl

-- a unit as it begins is that of the plan, in slots with the name of its group
pub first_is : (p : Settings) (index : Option StressIndex) (k : ℕ) (slot : TestSlotAssignment) (handed : List Pair)
    (test : PlanTest)
    → test_of_unit p k ≡ Some test → ((g : GroupSlot) → slot.group ≡ Some g → test.group ≡ Some g.name)
    → IsPlanUnit p (first_view p index k slot handed test)
first_is p index k slot handed test planned group = record {
  test = test;
  planned = planned;
  name = refl;
  flaky = flaky_so p.flaky_result test;
  command = refl;
  attempts = attempts_so p.retries test;
  group = group;
}

group_name : (slot : Option ℕ) (name : Option (List ℕ)) (g : GroupSlot) → group_slot slot name ≡ Some g
    → name ≡ Some g.name
group_name None name g is = cc
group_name (Some n) None g is = cc
group_name (Some n) (Some name) g is = ap (λ (g : GroupSlot). Some g.name) (same_Some _ _ is)

-- so is what an admission makes
test_is : (p : Settings) (index : Option StressIndex) (us : List (Option UnitView)) (place : ℕ) (test : PlanTest)
    (new : Newcomer)
    → slice_get p.plan.tests place ≡ Some test → Becomes p index us place test new → IsPlanUnit p new.unit
test_is p index us place test new planned (inl (reason, skip, is)) =
    subst (λ (n : Newcomer). IsPlanUnit p n.unit) (sym is)
    (first_is p index (unit_of_test p place) (global_slot 0) [] test (test_there p place test planned) (λ g none. cc))
test_is p index us place test new planned (inr (skip, (global, (slot, runs, is)))) =
    subst (λ (n : Newcomer). IsPlanUnit p n.unit) (sym is)
    (first_is p index (unit_of_test p place) (slots_of test global slot) (handed_to p us test) test
    (test_there p place test planned)
    (group_name slot test.group))

script_is : (p : Settings) (index : Option StressIndex) (us : List (Option UnitView)) (new : Newcomer)
    → ScriptComes p index us new → IsPlanUnit p new.unit
script_is p index us new found =
    subst (λ (n : Newcomer). IsPlanUnit p n.unit) (sym found.is)
    (ap (option_map (script_named p index found.place)) found.planned)

pub newcomer_planned : (p : Settings) (index : Option StressIndex) (us : List (Option UnitView)) (new : Newcomer)
    → newcomer p index us ≡ Some new
    → IsPlanUnit p new.unit
newcomer_planned p index us new e = by_kind (newcomer_is p index us new e)
  where
    by_kind : Newcomes p index us new ⊎ ScriptComes p index us new → IsPlanUnit p new.unit
    by_kind (inl found) = test_is p index us found.place found.test new found.planned found.is
    by_kind (inr found) = script_is p index us new found

-- a row, and a request, leaves it so
pub row_planned : (p : Settings) (now : ℕ) (turn : UnitTurn) (u : UnitView) → IsPlanUnit p u
    → IsPlanUnit p (row now turn u).next
row_planned p now turn u h = by_keeps (row_keeps now u.phase turn (at_moment now u) refl)
  where
    by_keeps : Keeps (at_moment now u) (row now turn u).next → IsPlanUnit p (row now turn u).next
    by_keeps it = rw (it.role, it.command, it.terms) h

pub reach_planned : (p : Settings) (request : Option Request) (v : Option UnitView) → IsPlanUnitIf p v
    → IsPlanUnitIf p (reach request v)
reach_planned p None v h = h
reach_planned p (Some request) None h = tt
reach_planned p (Some request) (Some u) h = by_live (is_live u.phase)
  where
    by_live : (b : Bool) → IsPlanUnitIf p (Some (if b then record u { line = u.line ++ request ∷ [] } else u))
    by_live true = h
    by_live false = h

part_planned : (p : Settings) (now k : ℕ) (part : Option UnitPart) (v : Option UnitView)
    → ((first : UnitView) → part ≡ Some (Joins first) → IsPlanUnit p first) → IsPlanUnitIf p v
    → IsPlanUnitIf p (unit_after now k part v)
part_planned p now k None v joins h = h
part_planned p now k (Some (Joins first)) v joins h = by_unit (number first == k)
  where
    by_unit : (b : Bool) → IsPlanUnitIf p (if b then Some first else v)
    by_unit true = joins first refl
    by_unit false = h
part_planned p now k (Some (Acts j turn)) v joins h = by_unit (j == k)
  where
    by_view : (v : Option UnitView) → IsPlanUnitIf p v → IsPlanUnitIf p (option_map (λ w. (row now turn w).next) v)
    by_view None h = tt
    by_view (Some u) h = row_planned p now turn u h

    by_unit : (b : Bool) → IsPlanUnitIf p (if b then option_map (λ w. (row now turn w).next) v else v)
    by_unit true = by_view v h
    by_unit false = h

-- after each legal journal
pub units_kept : (p : Settings) → IsKept p (ArePlanUnits p)
units_kept p f refused now run e h en does was k =
    reach_planned p _ _ (part_planned p now k _ (unit_of k run)
    (λ first is. let it = joins_new p f refused now run e.turn en first is in
    subst (IsPlanUnit p) (sym it.1.1) (newcomer_planned p (index_in p f) (units p run) it.0 it.1.0)) (was k))
