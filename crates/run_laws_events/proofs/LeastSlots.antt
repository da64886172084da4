-- A test joins in the least free slots.
use Rattle.std.specs.Prelude.{nat_eq}
use Rattle.std.proofs.Common.{◌≡◌, ℕ, ◌<◌, ◌==◌, List, [], length, Bool, true, false, if◌then◌else◌, Option, Some, None}
use Rattle.std.proofs.Common.{option_map, option_and_then, is_some, slice_get, refl, ap, sym, subst, ◌∙◌, arith}
use Rattle.std.specs.List.{list_any}
use Rattle.std.specs.Option.{option_map_or}
use Rattle.std.specs.Cmp.Lexicographic.{same_text}
use Rattle.std.proofs.lemmas.List.{length-map}
use Rattle.std.proofs.lemmas.List.Quantifiers.{position-Some}
use Rattle.std.proofs.lemmas.Option.{same_Some}
use lib.Pointwise.{pointwise}
use Rattle.run_events.specs.declared.plan.Group.{Group}
use Rattle.run_events.specs.declared.plan.GroupSlot.{GroupSlot}
use Rattle.run_events.specs.declared.plan.PlanTest.{PlanTest}
use Rattle.run_events.specs.declared.plan.TestSlotAssignment.{TestSlotAssignment}
use Rattle.run_events.specs.declared.settings.Settings.{Settings}
use Rattle.run_admission.specs.declared.seat.Seat.{Seat}
use Rattle.run_admission.specs.InUse.{Admissions, Test, claim_of, free_group_slot, free_slot, group_of, is_of}
use Rattle.run_admission.specs.InUse.{least_free, seat_group_slot, seat_slot, slot_in, slot_of, tests}
use Rattle.run_admission.specs.Laws.{HasOwnSlots, group_slot_at, slot_at}
use Rattle.run_model.specs.declared.happening.Happening.{Happening}
use Rattle.run_model.specs.declared.happening.UnitPart.TheVariants.{Joins}
use Rattle.run_model.specs.declared.unit_view.UnitView.{UnitView}
use Rattle.run_model.specs.Admission.{group_slot, seat_of, slots_of, unit_of_test}
use Rattle.run_model.specs.Environment.{number}
use Rattle.run_model.specs.Words.{unit_of}
use Rattle.run_laws.specs.Limits.{limits_with}
use Rattle.run_laws.proofs.board.BoardSeats.{board_seat, seat_after}
use Rattle.run_laws.proofs.units.AccountRows.{same_number}
use Rattle.run_laws.proofs.board.Holds.{Holds}
use Rattle.run_laws_events.specs.Slots.{AreLeastFree, HoldsInGroup, HoldsNumber}
use Rattle.run_laws_events.specs.Slots.{IsGroupSlot, IsLeastFree, planned_group}
use Rattle.run_laws_events.specs.Slots.{slots_held}
use Rattle.run_laws_events.proofs.HeldSlots.{IsHolder, group_seat, holder, number_seat, seat_test, test_seat}
use Rattle.run_laws_events.proofs.Places.{held_below, held_is, list_any-position}
use Rattle.run_laws_events.proofs.PlanUnits.{ArePlanUnits}
use Rattle.run_laws.proofs.board.OnBoard.{Frame}
use Rattle.run_admission.proofs.NameLemmas.{a_value}
use Rattle.run_admission.proofs.NameLemmas.{no_value}

-- a test that joins after a sub-run: it wasn't admitted before, gets the free slots of the rule, and then the slots are
-- each of
-- one test with it
pub record Joining (p : Settings) (f : Frame) (now : ℕ) (run : List Happening) (place global : ℕ) (slot : Option ℕ)
    (test : PlanTest) (first : UnitView) : Type 0 where
  pub holds : Holds p now run
  pub units : ArePlanUnits p run
  pub planned : slice_get p.plan.tests place ≡ Some test
  pub unit : number first ≡ unit_of_test p place
  pub unknown : unit_of (number first) run ≡ None
  pub held : slots_held (Some first) ≡ Some (slots_of test global slot)
  pub own : HasOwnSlots (limits_with p (seat_after now (Some (Joins first)) run))
  pub all : global ≡ free_slot (limits_with p (board_seat run))
  pub part : slot ≡ free_group_slot (limits_with p (board_seat run)) (claim_of p.plan.groups test)

-- what is made of an item is made of one that is there
some_of : {A B : Type 0} (f : A → B) (o : Option A) (y : B) → option_map f o ≡ Some y
    → (x : A) × ((o ≡ Some x) × (f x ≡ y))
some_of f None y e = cc
some_of f (Some x) y e = (x, (refl, same_Some _ _ e))

some_and : {A B : Type 0} (f : A → Option B) (o : Option A) (y : B) → option_and_then f o ≡ Some y
    → (x : A) × ((o ≡ Some x) × (f x ≡ Some y))
some_and f None y e = cc
some_and f (Some x) y e = (x, (refl, e))

-- a unit that holds slots isn't the one that joins, and stays in its seat
apart : (run : List Happening) (k : ℕ) (first : UnitView) (slots : TestSlotAssignment)
    → unit_of (number first) run ≡ None
    → slots_held (unit_of k run) ≡ Some slots → (number first == k) ≡ false
apart run k first slots unknown held = by_unit (number first == k) refl
  where
    by_unit : (b : Bool) → (number first == k) ≡ b → b ≡ false
    by_unit false e = refl
    by_unit true e =
        let here : k ≡ number first = grind arith in
        let never : None ≡ Some slots = sym (ap slots_held (ap (λ k. unit_of k run) here ∙ unknown)) ∙ held in cc

stays : (now : ℕ) (run : List Happening) (k : ℕ) (first : UnitView) → (number first == k) ≡ false
    → seat_after now (Some (Joins first)) run k ≡ seat_of (unit_of k run)
stays now run k first e = ap (λ b. seat_of (if b then Some first else unit_of k run)) e

sits : (now : ℕ) (run : List Happening) (k : ℕ) (first : UnitView) → number first ≡ k
    → seat_after now (Some (Joins first)) run k ≡ seat_of (Some first)
sits now run k first here =
    ap (λ b. seat_of (if b then Some first else unit_of k run)) (ap (λ n. n == k) here ∙ same_number k)

-- the place of the one that joins is that of no holder
not_place : (p : Settings) (run : List Happening) (k place : ℕ) (first : UnitView) (slots : TestSlotAssignment)
    → (it : IsHolder p k slots) → number first ≡ unit_of_test p place → (number first == k) ≡ false → it.place ≡ place
    → ⊥
not_place p run k place first slots it here other same =
    let k_is : k ≡ number first = it.unit ∙ ap (unit_of_test p) same ∙ sym here in
    let never : true ≡ false = sym (ap (λ k. number first == k) k_is ∙ same_number (number first)) ∙ other in cc

-- among all tests
all_least : (p : Settings) (f : Frame) (now : ℕ) (run : List Happening) (place global : ℕ) (slot : Option ℕ)
    (test : PlanTest) (first : UnitView) → Joining p f now run place global slot test first
    → IsLeastFree (HoldsNumber run) global
all_least p f now run place global slot test first c = record { free = free; below = below }
  where
    seat : ℕ → Seat
    seat = seat_after now (Some (Joins first)) run

    slot_seat : (j : ℕ) (test : PlanTest) → slice_get p.plan.tests j ≡ Some test
        → slot_at (limits_with p seat) j ≡ seat_slot (seat (unit_of_test p j))
    slot_seat j test planned = ap (option_and_then slot_of) (test_seat p seat j test planned)

    at_place : slot_at (limits_with p seat) place ≡ Some global
    at_place = slot_seat place test c.planned ∙ ap seat_slot (sits now run (unit_of_test p place) first c.unit)
        ∙ number_seat (Some first) ∙ ap (option_map (λ (s : TestSlotAssignment). s.global)) c.held

    free : (k : ℕ) → HoldsNumber run k global → ⊥
    free k h =
        let slots = some_of (λ (s : TestSlotAssignment). s.global) (slots_held (unit_of k run)) global h in
        let it : IsHolder p k slots.0 = holder p f now run k slots.0 c.holds c.units slots.1.0 in
        let other = apart run k first slots.0 c.unknown slots.1.0 in
        let at : slot_at (limits_with p seat) it.place ≡ Some global =
        slot_seat it.place it.test it.planned ∙ ap (λ i. seat_slot (seat i)) (sym it.unit)
        ∙ ap seat_slot (stays now run k first other) ∙ number_seat (unit_of k run) ∙ h in
        not_place p run k place first slots.0 it c.unit other (c.own.all it.place place global at at_place)

    below : (m : ℕ) → m < global → (k : ℕ) × HoldsNumber run k m
    below m less = by_test
        (held_below slot_of (tests (limits_with p (board_seat run))) m (subst (λ n. m < n) c.all less))
      where
        by_test : (j : ℕ) × ((t : Test)
            × ((slice_get (tests (limits_with p (board_seat run))) j ≡ Some t) × (slot_of t ≡ Some m)))
            → (k : ℕ) × HoldsNumber run k m
        by_test (j, (t, (at, is))) =
            let it = seat_test p (board_seat run) j t at in (
              unit_of_test p j,
              sym (number_seat (unit_of (unit_of_test p j) run)) ∙ ap slot_of (sym it.is) ∙ is,
            )

-- two groups that stand at one place have one name
pub nameless : Group
nameless = record { name = []; limit = 0 }

pub same_name : (groups : List Group) (a b : List ℕ) (g : ℕ) → group_of groups a ≡ Some g → group_of groups b ≡ Some g
    → a ≡ b
same_name groups a b g first second =
    let one = position-Some (λ (g : Group). pointwise nat_eq g.name a) groups g nameless first in
    let other = position-Some (λ (g : Group). pointwise nat_eq g.name b) groups g nameless second in
    sym (same_text _ a (sym one.1)) ∙ same_text _ b (sym other.1)

-- within its group
part_least : (p : Settings) (f : Frame) (now : ℕ) (run : List Happening) (place global g : ℕ) (slot : Option ℕ)
    (name : List ℕ) (test : PlanTest) (first : UnitView) → Joining p f now run place global slot test first
    → test.group ≡ Some name → group_of p.plan.groups name ≡ Some g
    → IsGroupSlot run (Some name) (group_slot slot test.group)
part_least p f now run place global g slot name test first c grouped found =
    (n, (gives, record { free = free; below = below }))
  where
    seat : ℕ → Seat
    seat = seat_after now (Some (Joins first)) run

    before : Admissions
    before = limits_with p (board_seat run)

    n : ℕ
    n = least_free (slot_in g) (tests before)

    claims : (other : PlanTest) (own : List ℕ) → other.group ≡ Some own → group_of p.plan.groups own ≡ Some g
        → is_of g (claim_of p.plan.groups other) ≡ true
    claims other own is at =
        ap (λ o. option_map_or (λ h. h == g) (option_and_then (group_of p.plan.groups) o) false) is
        ∙ ap (λ o. option_map_or (λ h. h == g) o false) at ∙ same_number g

    slot_is : slot ≡ Some n
    slot_is = c.part ∙ ap
        (λ o. option_map (λ g. least_free (slot_in g) (tests before)) (option_and_then (group_of p.plan.groups) o))
        grouped
        ∙ ap (option_map (λ g. least_free (slot_in g) (tests before))) found

    gives : group_slot slot test.group ≡ Some (record { slot = n; name = name })
    gives = ap (λ s. group_slot s test.group) slot_is ∙ ap (group_slot (Some n)) grouped

    slot_seat : (j : ℕ) (other : PlanTest) → slice_get p.plan.tests j ≡ Some other
        → is_of g (claim_of p.plan.groups other) ≡ true
        → group_slot_at (limits_with p seat) g j ≡ seat_group_slot (seat (unit_of_test p j))
    slot_seat j other planned of =
        ap (option_and_then (slot_in g)) (test_seat p seat j other planned)
        ∙ ap (λ b. if b then seat_group_slot (seat (unit_of_test p j)) else None) of

    at_place : group_slot_at (limits_with p seat) g place ≡ Some n
    at_place = slot_seat place test c.planned (claims test name grouped found)
        ∙ ap seat_group_slot (sits now run (unit_of_test p place) first c.unit)
        ∙ group_seat (Some first)
        ∙ ap (λ o. option_map (λ (g : GroupSlot). g.slot) (option_and_then (λ (s : TestSlotAssignment). s.group) o))
        c.held
        ∙ ap (option_map (λ (g : GroupSlot). g.slot)) gives

    within : g < length (limits_with p seat).limits
    within =
        let at = position-Some (λ (g : Group). pointwise nat_eq g.name name) p.plan.groups g nameless found in
        omega (arith, at.0, length-map p.plan.groups (λ (g : Group). g.limit))

    free : (k : ℕ) → HoldsInGroup run name k n → ⊥
    free k h =
        let slots = some_and (λ (s : TestSlotAssignment). s.group) (slots_held (unit_of k run)) _ h in
        let it : IsHolder p k slots.0 = holder p f now run k slots.0 c.holds c.units slots.1.0 in
        let other = apart run k first slots.0 c.unknown slots.1.0 in
        let at : group_slot_at (limits_with p seat) g it.place ≡ Some n =
        slot_seat it.place it.test it.planned (claims it.test name (it.group _ slots.1.1) found)
        ∙ ap (λ i. seat_group_slot (seat i)) (sym it.unit) ∙ ap seat_group_slot (stays now run k first other)
        ∙ group_seat (unit_of k run) ∙ ap (option_map (λ (g : GroupSlot). g.slot)) h in
        not_place p run k place first slots.0 it c.unit other (c.own.groups g it.place place n within at at_place)

    below : (m : ℕ) → m < n → (k : ℕ) × HoldsInGroup run name k m
    below m less = by_test (held_below (slot_in g) (tests before) m less)
      where
        by_slot : (j : ℕ) (other : PlanTest) → slice_get p.plan.tests j ≡ Some other → (b : Bool)
            → is_of g (claim_of p.plan.groups other) ≡ b
            → (if b then seat_group_slot (board_seat run (unit_of_test p j)) else None) ≡ Some m
            → HoldsInGroup run name (unit_of_test p j) m
        by_slot j other planned false of is = cc
        by_slot j other planned true of is =
            let k : ℕ = unit_of_test p j in
            let part = some_of (λ (g : GroupSlot). g.slot)
            (option_and_then (λ (s : TestSlotAssignment). s.group) (slots_held (unit_of k run))) m
            (sym (group_seat (unit_of k run)) ∙ is) in
            let slots = some_and (λ (s : TestSlotAssignment). s.group) (slots_held (unit_of k run)) part.0 part.1.0 in
            let it : IsHolder p k slots.0 = holder p f now run k slots.0 c.holds c.units slots.1.0 in
            let unit : unit_of_test p j ≡ unit_of_test p it.place = it.unit in
            let there : it.place ≡ j = omega (arith, unit) in
            let same : it.test ≡ other =
            same_Some _ _ (sym it.planned ∙ ap (slice_get p.plan.tests) there ∙ planned) in
            let named : other.group ≡ Some part.0.name =
            ap (λ (t : PlanTest). t.group) (sym same) ∙ it.group part.0 slots.1.1 in
            let group : group_of p.plan.groups part.0.name ≡ Some g =
            ap (option_and_then (group_of p.plan.groups)) (sym named) ∙ held_is _ g of in
            let name_is : part.0.name ≡ name = same_name p.plan.groups part.0.name name g group found in
            part.1.0 ∙ ap (λ m. Some (record { slot = m; name = part.0.name })) part.1.1
            ∙ ap (λ name. Some (record { slot = m; name = name })) name_is

        by_test : (j : ℕ) × ((t : Test) × ((slice_get (tests before) j ≡ Some t) × (slot_in g t ≡ Some m)))
            → (k : ℕ) × HoldsInGroup run name k m
        by_test (j, (t, (at, is))) =
            let it = seat_test p (board_seat run) j t at in (
              unit_of_test p j,
              by_slot j it.test it.planned (is_of g (claim_of p.plan.groups it.test)) refl
                  (ap (slot_in g) (sym it.is) ∙ is),
            )

-- or in no group
no_slot : (slot : Option ℕ) → group_slot slot None ≡ None
no_slot None = refl
no_slot (Some n) = refl

group_least : (p : Settings) (f : Frame) (now : ℕ) (run : List Happening) (place global : ℕ) (slot : Option ℕ)
    (test : PlanTest) (first : UnitView) → Joining p f now run place global slot test first
    → IsGroupSlot run (planned_group p.plan.groups test.group) (group_slot slot test.group)
group_least p f now run place global slot test first c = by_group test.group refl
  where
    Fine : Option (List ℕ) → Option (List ℕ) → Type 0
    Fine planned o = IsGroupSlot run planned (group_slot slot o)

    named : (name : List ℕ) → test.group ≡ Some name → (b : Bool)
        → list_any (λ (g : Group). pointwise nat_eq g.name name) p.plan.groups ≡ b
        → Fine (if b then Some name else None) test.group
    named name is true some =
        let at = a_value (group_of p.plan.groups name)
        (list_any-position (λ (g : Group). pointwise nat_eq g.name name) p.plan.groups nameless ∙ some) in
        part_least p f now run place global at.0 slot name test first c is at.1
    named name is false some =
        let none : group_of p.plan.groups name ≡ None = no_value (group_of p.plan.groups name)
        (list_any-position (λ (g : Group). pointwise nat_eq g.name name) p.plan.groups nameless ∙ some) in
        let without : slot ≡ None =
        c.part ∙ ap (λ o. option_map (λ g. least_free (slot_in g) (tests (limits_with p (board_seat run))))
        (option_and_then (group_of p.plan.groups) o)) is
        ∙ ap (option_map (λ g. least_free (slot_in g) (tests (limits_with p (board_seat run))))) none in
        ap (λ s. group_slot s test.group) without

    by_group : (o : Option (List ℕ)) → test.group ≡ o → Fine (planned_group p.plan.groups o) o
    by_group None is = no_slot slot
    by_group (Some name) is =
        subst (Fine (planned_group p.plan.groups (Some name))) is
        (named name is (list_any (λ (g : Group). pointwise nat_eq g.name name) p.plan.groups) refl)

pub are_least : (p : Settings) (f : Frame) (now : ℕ) (run : List Happening) (place global : ℕ) (slot : Option ℕ)
    (test : PlanTest) (first : UnitView) → Joining p f now run place global slot test first
    → AreLeastFree p run test (slots_of test global slot)
are_least p f now run place global slot test first c = record {
  all = all_least p f now run place global slot test first c;
  group = group_least p f now run place global slot test first c;
}
