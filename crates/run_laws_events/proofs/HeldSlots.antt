-- The slots that units hold are those of the tests of the rule.
use Rattle.std.proofs.Common.{◌≡◌, ℕ, ◌-◌, List, map, Bool, true, false, if◌then◌else◌, Option, Some, None, option_map}
use Rattle.std.proofs.Common.{option_and_then, slice_get, refl, ap, sym, ◌∙◌, arith, zero-add}
use Rattle.std.specs.List.{range_with_len}
use Rattle.std.proofs.lemmas.Option.{same_Some, slice_get_within, slice_get-map}
use Rattle.run_events.specs.declared.plan.GroupSlot.{GroupSlot}
use Rattle.run_events.specs.declared.plan.PlanTest.{PlanTest}
use Rattle.run_events.specs.declared.plan.TestSlotAssignment.{TestSlotAssignment}
use Rattle.run_events.specs.declared.settings.Settings.{Settings}
use Rattle.run_admission.specs.declared.seat.Seat.{Seat}
use Rattle.run_admission.specs.declared.seat.Seat.TheVariants.{Gone}
use Rattle.run_admission.specs.InUse.{Test, claim_of, seat_slot, seat_group_slot, tests}
use Rattle.run_model.specs.declared.happening.Happening.{Happening}
use Rattle.run_model.specs.declared.unit_view.AttemptTerms.{AttemptTerms}
use Rattle.run_model.specs.declared.unit_view.UnitRole.{UnitRole}
use Rattle.run_model.specs.declared.unit_view.UnitRole.TheVariants as roles
use Rattle.run_model.specs.declared.unit_view.UnitView.{UnitView}
use Rattle.run_model.specs.Admission.{is_last, is_script, scripts_in, seat_as, seat_of, tests_in, unit_of_test}
use Rattle.run_model.specs.Environment.{number_of}
use Rattle.run_model.specs.Words.{unit_of}
use Rattle.run_laws.specs.Limits.{limits_with}
use Rattle.run_laws.proofs.board.Facts.{test_above}
use Rattle.run_laws.proofs.board.Holds.{Holds}
use Rattle.run_laws_events.specs.Names.{test_of_unit}
use Rattle.run_laws_events.specs.Slots.{slots_held, slots_in_role}
use Rattle.run_laws_events.proofs.Places.{range_at, range_from, zip_at, zip_from}
use Rattle.run_laws_events.proofs.PlanUnits.{ArePlanUnits, IsPlanUnitIf, IsUnitAs}
use Rattle.run_laws.proofs.board.OnBoard.{Frame}

-- the seat of a unit has the slots that it holds
pub number_seat : (v : Option UnitView) → seat_slot (seat_of v) ≡ option_map (λ slots. slots.global) (slots_held v)
number_seat None = refl
number_seat (Some u) = by_last (is_last u.phase) u.role
  where
    by_last : (b : Bool) (role : UnitRole) → seat_slot (if b then Gone else seat_as role)
        ≡ option_map (λ slots. slots.global) (if b then None else slots_in_role role)
    by_last true role = refl
    by_last false (roles.Test t) = refl
    by_last false (roles.Script s) = refl

pub group_seat : (v : Option UnitView) → seat_group_slot (seat_of v)
    ≡ option_map (λ g. g.slot) (option_and_then (λ slots. slots.group) (slots_held v))
group_seat None = refl
group_seat (Some u) = by_last (is_last u.phase) u.role
  where
    by_last : (b : Bool) (role : UnitRole) → seat_group_slot (if b then Gone else seat_as role)
        ≡ option_map (λ g. g.slot) (option_and_then (λ slots. slots.group) (if b then None else slots_in_role role))
    by_last true role = refl
    by_last false (roles.Test t) = refl
    by_last false (roles.Script s) = refl

-- what is at a place of the rule, where each unit has this seat
pub test_seat : (p : Settings) (seat : ℕ → Seat) (j : ℕ) (test : PlanTest) → slice_get p.plan.tests j ≡ Some test
    → slice_get (tests (limits_with p seat)) j ≡ Some (claim_of p.plan.groups test, seat (unit_of_test p j))
test_seat p seat j test is =
    let within = slice_get_within p.plan.tests j test is in
    zip_at (map (claim_of p.plan.groups) p.plan.tests)
    (map (λ j. seat (unit_of_test p j)) (range_with_len 0 (tests_in p))) j
    (claim_of p.plan.groups test) (seat (unit_of_test p j))
    (slice_get-map (claim_of p.plan.groups) p.plan.tests j ∙ ap (option_map (claim_of p.plan.groups)) is)
    (range_at (λ j. seat (unit_of_test p j)) (tests_in p) 0 j within
    ∙ ap (λ i. Some (seat (unit_of_test p i))) (zero-add j))

pub record IsTestAt (p : Settings) (seat : ℕ → Seat) (j : ℕ) (t : Test) : Type 0 where
  pub test : PlanTest
  pub planned : slice_get p.plan.tests j ≡ Some test
  pub is : t ≡ (claim_of p.plan.groups test, seat (unit_of_test p j))

pub seat_test : (p : Settings) (seat : ℕ → Seat) (j : ℕ) (t : Test) → slice_get (tests (limits_with p seat)) j ≡ Some t
    → IsTestAt p seat j t
seat_test p seat j t e = by_test (slice_get p.plan.tests j) refl
    (zip_from (map (claim_of p.plan.groups) p.plan.tests)
    (map (λ j. seat (unit_of_test p j)) (range_with_len 0 (tests_in p))) j t e)
  where
    by_test : (o : Option PlanTest) → slice_get p.plan.tests j ≡ o
        → (slice_get (map (claim_of p.plan.groups) p.plan.tests) j ≡ Some t.0)
        × (slice_get (map (λ j. seat (unit_of_test p j)) (range_with_len 0 (tests_in p))) j ≡ Some t.1)
        → IsTestAt p seat j t
    by_test None is both =
        let never : None ≡ Some t.0 = ap (option_map (claim_of p.plan.groups)) (sym is)
        ∙ sym (slice_get-map (claim_of p.plan.groups) p.plan.tests j) ∙ both.0 in cc
    by_test (Some test) is both =
        let claim : t.0 ≡ claim_of p.plan.groups test = same_Some _ _ (sym both.0
        ∙ slice_get-map (claim_of p.plan.groups) p.plan.tests j ∙ ap (option_map (claim_of p.plan.groups)) is) in
        let sits : t.1 ≡ seat (unit_of_test p j) =
        range_from (λ j. seat (unit_of_test p j)) (tests_in p) 0 j t.1 both.1
        ∙ ap (λ i. seat (unit_of_test p i)) (zero-add j) in
        record {
          test = test;
          planned = is;
          is = ap (λ c. (c, t.1)) claim ∙ ap (λ s. (claim_of p.plan.groups test, s)) sits;
        }

-- a unit that holds slots is a test of the plan, in those of its group
pub record IsHolder (p : Settings) (k : ℕ) (slots : TestSlotAssignment) : Type 0 where
  pub place : ℕ
  pub test : PlanTest
  pub unit : k ≡ unit_of_test p place
  pub planned : slice_get p.plan.tests place ≡ Some test
  pub group : (g : GroupSlot) → slots.group ≡ Some g → test.group ≡ Some g.name

placed : (p : Settings) (k : ℕ) (test : PlanTest) (slots : TestSlotAssignment) → test_of_unit p k ≡ Some test
    → ((g : GroupSlot) → slots.group ≡ Some g → test.group ≡ Some g.name) → IsHolder p k slots
placed p k test slots is group = by_script (is_script p k) refl is
  where
    by_script : (b : Bool) → is_script p k ≡ b
        → (if b then None else slice_get p.plan.tests (k - scripts_in p)) ≡ Some test
        → IsHolder p k slots
    by_script true kind is = cc
    by_script false kind is = record {
      place = k - scripts_in p;
      test = test;
      unit = omega (arith, test_above p k kind);
      planned = is;
      group = group;
    }

pub holder : (p : Settings) (f : Frame) (now : ℕ) (run : List Happening) (k : ℕ) (slots : TestSlotAssignment)
    → Holds p now run → ArePlanUnits p run → slots_held (unit_of k run) ≡ Some slots → IsHolder p k slots
holder p f now run k slots h units held = by_unit (unit_of k run) refl (units k) held
  where
    by_role : (role : UnitRole) (words : List (List ℕ)) (terms : AttemptTerms) (b : Bool) → IsUnitAs p role words terms
        → number_of role ≡ k → (if b then None else slots_in_role role) ≡ Some slots → IsHolder p k slots
    by_role role words terms true it here held = cc
    by_role (roles.Script s) words terms false it here held = cc
    by_role (roles.Test t) words terms false it here held =
        placed p k it.test slots (ap (test_of_unit p) (sym here) ∙ it.planned)
        (λ g is. it.group g (ap (λ (s : TestSlotAssignment). s.group) (same_Some _ _ held) ∙ is))

    by_unit : (v : Option UnitView) → unit_of k run ≡ v → IsPlanUnitIf p v → slots_held v ≡ Some slots
        → IsHolder p k slots
    by_unit None is it held = cc
    by_unit (Some u) is it held = by_role u.role u.command u.terms (is_last u.phase) it (h.named k u is).0 held
