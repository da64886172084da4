-- The limits that hold by the rule hold by the plan's own numbers.
use Rattle.std.proofs.Common.{◌≡◌, ℕ, zero, suc, ◌+◌, ◌<◌, ◌≤◌, ◌==◌, min, List, [], ◌∷◌, length, map, Bool, true}
use Rattle.std.proofs.Common.{false, cond, if◌then◌else◌, nat_eq, nat_lt, sum_by, Option, Some, None, option_map}
use Rattle.std.proofs.Common.{option_and_then, is_some, not, slice_get, slice_index, refl, ap, sym, subst, ◌∙◌, arith}
use Rattle.std.proofs.Common.{eq-eqb}
use Rattle.std.specs.Option.{option_map_or}
use Rattle.std.specs.List.{All, find, zip, position_or_len, range_with_len}
use Rattle.std.specs.Cmp.Lexicographic.{same_text}
use Rattle.std.proofs.lemmas.Bool.Decides.{nat_tests}
use Rattle.std.proofs.lemmas.List.Sums.{sum_by-cons}
use Rattle.std.proofs.lemmas.Option.{same_Some}
use lib.Pointwise.{pointwise}
use Rattle.run_events.specs.declared.settings.Settings.{Settings}
use Rattle.run_events.specs.declared.plan.Group.{Group}
use Rattle.run_events.specs.declared.plan.GroupSlot.{GroupSlot}
use Rattle.run_events.specs.declared.plan.PlanTest.{PlanTest}
use Rattle.run_events.specs.declared.plan.TestSlotAssignment.{TestSlotAssignment}
use Rattle.run_events.specs.declared.events.ReporterEvent.{ReporterEvent}
use Rattle.run_admission.specs.declared.seat.Claim.{Claim}
use Rattle.run_admission.specs.declared.seat.Seat.{Seat}
use Rattle.run_admission.specs.declared.seat.Seat.TheVariants.{Gone}
use Rattle.run_admission.specs.InUse.{Test, tests, group_of, claim_of, is_in_use, is_of, taken, taken_in, slot_of}
use Rattle.run_admission.specs.InUse.{slot_in}
use Rattle.run_admission.specs.Laws.{KeepsLimits, HasOwnSlots, group_slot_at}
use Rattle.run_model.specs.Words.{is_running}
use Rattle.run_model.specs.Admission.{scripts_in, tests_in, unit_of_test}
use Rattle.run_laws.specs.Limits.{slots_told, seat_in, seat_told, limits_told}
use Rattle.run_laws_events.specs.PlanLimits.{group_named, is_of_group, weight_told, group_weight_told, IsRunningIn}
use Rattle.run_laws_events.specs.PlanLimits.{KeepsPlanLimits, HasPlanSlots, group_of_plan}
use Rattle.run_laws_events.proofs.StartedLemmas.{EventFits}
use Rattle.run_laws_events.proofs.SlotsTold.{slots_of_running, names_own}

-- a sum over the tests with their numbers is no more than one over what they claim and their seats, where no test's
-- part is
sum_below : (f : Test → ℕ) (g : PlanTest × ℕ → ℕ) (claim : PlanTest → Claim) (seat : ℕ → Seat) (first : ℕ)
    → ((t : PlanTest) (k : ℕ) → first ≤ k → g (t, k) ≤ f (claim t, seat k))
    → (ts : List PlanTest) (i a n : ℕ) → first + i ≡ a
    → sum_by g (zip ts (range_with_len a n))
    ≤ sum_by f (zip (map claim ts) (map (λ j. seat (first + j)) (range_with_len i n)))
sum_below f g claim seat first le [] i a n at = omega arith
sum_below f g claim seat first le (t ∷ ts) i a zero at = omega arith
sum_below f g claim seat first le (t ∷ ts) i a (suc n) at =
    let here : g (t, a) ≤ f (claim t, seat (first + i)) =
    subst (λ k. g (t, a) ≤ f (claim t, seat k)) (sym at) (le t a (omega arith)) in
    let rest = sum_below f g claim seat first le ts (i + 1) (a + 1) n (omega arith) in
    omega (
      arith,
      here,
      rest,
      sum_by-cons g (t, a) (zip ts (range_with_len (a + 1) n)),
      sum_by-cons f (claim t, seat (first + i))
          (zip (map claim ts) (map (λ j. seat (first + j)) (range_with_len (i + 1) n))),
    )

-- what a running test is told to take it takes by its seat
weight_below : (p : Settings) (events : List ReporterEvent) → All (EventFits p) events
    → (limit : ℕ) (t : PlanTest) (k : ℕ) → scripts_in p ≤ k
    → weight_told events limit (t, k) ≤ taken limit (claim_of p.plan.groups t, seat_told events k)
weight_below p events all limit t k above = by_running (is_running events k) refl
  where
    seated : (o : Option TestSlotAssignment) → is_some o ≡ true → is_in_use (seat_in o) ≡ true
    seated None h = cc
    seated (Some slots) h = refl

    by_running : (b : Bool) → is_running events k ≡ b
        → (if b then min t.weight limit else 0)
        ≤ (if is_in_use (if b then seat_in (slots_told k events) else Gone) then min t.weight limit else 0)
    by_running false is = omega arith
    by_running true is =
        let used : is_in_use (seat_in (slots_told k events)) ≡ true =
        seated (slots_told k events) (slots_of_running p k events all above is) in
        let same : (if is_in_use (seat_in (slots_told k events)) then min t.weight limit else 0) ≡ min t.weight limit =
        ap (λ b. if b then min t.weight limit else 0) used in
        omega arith

-- the first group of a name has the place that tests of that name claim, and its limit
abbrev IsPlaceOf : List Group → Group → ℕ → Type 0
IsPlaceOf groups group n = (n < length groups) × (n < length (map (λ g. g.limit) groups))
    × (slice_index (map (λ g. g.limit) groups) n ≡ group.limit)

place_of : (named : Group → Bool) (groups : List Group) (group : Group) → find named groups ≡ Some group
    → IsPlaceOf groups group (position_or_len named groups)
place_of named [] group e = cc
place_of named (g ∷ groups) group e = by_first (named g) refl e (place_of named groups group)
  where
    by_first : (b : Bool) → named g ≡ b → cond b (Some g) (find named groups) ≡ Some group
        → (find named groups ≡ Some group → IsPlaceOf groups group (position_or_len named groups))
        → IsPlaceOf (g ∷ groups) group (position_or_len named (g ∷ groups))
    by_first true is e rest =
        let at : position_or_len named (g ∷ groups) ≡ 0 =
        ap (λ b. cond (not b) (1 + position_or_len named groups) 0) is in
        subst (IsPlaceOf (g ∷ groups) group) (sym at)
        (omega arith, omega arith, ap (λ (g : Group). g.limit) (same_Some g group e))
    by_first false is e rest =
        let at : position_or_len named (g ∷ groups) ≡ 1 + position_or_len named groups =
        ap (λ b. cond (not b) (1 + position_or_len named groups) 0) is in
        let it = rest e in
        let next : position_or_len named (g ∷ groups) ≡ suc (position_or_len named groups) = omega arith in
        subst (IsPlaceOf (g ∷ groups) group) (sym next) (omega (arith, it.0), omega (arith, it.1), it.2)

record IsAt (groups : List Group) (name : List ℕ) (group : Group) : Type 0 where
  place : ℕ
  is : group_of groups name ≡ Some place
  within : place < length (map (λ g. g.limit) groups)
  limit : slice_index (map (λ g. g.limit) groups) place ≡ group.limit

group_at : (groups : List Group) (name : List ℕ) (group : Group) → group_named name groups ≡ Some group
    → IsAt groups name group
group_at groups name group found = record {
  place = position_or_len named groups;
  is = ap (λ b. cond b (Some (position_or_len named groups)) None)
      (above (position_or_len named groups) (length groups) it.0);
  within = it.1;
  limit = it.2;
}
  where
    named : Group → Bool
    named g = pointwise nat_eq g.name name

    it : IsPlaceOf groups group (position_or_len named groups)
    it = place_of named groups group found

    above : (a b : ℕ) → a < b → nat_lt a b ≡ true
    above a b h = grind (arith, nat_tests)

-- a test of that name claims that place
claims_name : (groups : List Group) (name : List ℕ) (test : PlanTest) (place : ℕ) → test.group ≡ Some name
    → group_of groups name ≡ Some place → is_of place (claim_of groups test) ≡ true
claims_name groups name test place own at =
    ap (λ o. option_map_or (λ h. h == place) o false) (ap (option_and_then (group_of groups)) own ∙ at)
    ∙ eq-eqb place place refl

claims_group : (groups : List Group) (name : List ℕ) (test : PlanTest) (place : ℕ) → is_of_group name test ≡ true
    → group_of groups name ≡ Some place → is_of place (claim_of groups test) ≡ true
claims_group groups name test place named at = by_group test.group refl named
  where
    by_group : (o : Option (List ℕ)) → test.group ≡ o → option_map_or (λ own. pointwise nat_eq own name) o false ≡ true
        → is_of place (claim_of groups test) ≡ true
    by_group None is named = cc
    by_group (Some own) is named =
        claims_name groups name test place (is ∙ ap Some (same_text own name (sym named))) at

group_weight_below : (p : Settings) (events : List ReporterEvent) → All (EventFits p) events → (name : List ℕ)
    (place limit : ℕ) (t : PlanTest) (k : ℕ) → group_of p.plan.groups name ≡ Some place → scripts_in p ≤ k
    → group_weight_told events name limit (t, k)
    ≤ taken_in place limit (claim_of p.plan.groups t, seat_told events k)
group_weight_below p events all name place limit t k at above = by_group (is_of_group name t) refl
  where
    by_group : (b : Bool) → is_of_group name t ≡ b
        → (if b then weight_told events limit (t, k) else 0)
        ≤ (if is_of place (claim_of p.plan.groups t)
        then taken limit (claim_of p.plan.groups t, seat_told events k) else 0)
    by_group false is = omega arith
    by_group true is =
        let claimed : is_of place (claim_of p.plan.groups t) ≡ true = claims_group p.plan.groups name t place is at in
        rw claimed (weight_below p events all limit t k above)

-- the test at a place, as the rule sees it
zip_at : (f : PlanTest → Claim) (h : ℕ → Seat) (ts : List PlanTest) (i j k : ℕ) (t : PlanTest) → slice_get ts j ≡ Some t
    → i + j ≡ k → slice_get (zip (map f ts) (map h (range_with_len i (length ts)))) j ≡ Some (f t, h k)
zip_at f h [] i j k t e at = cc
zip_at f h (x ∷ ts) i zero k t e at =
    let here : i ≡ k = omega arith in
    ap (λ x. Some (f x, h i)) (same_Some x t e) ∙ ap (λ k. Some (f t, h k)) here
zip_at f h (x ∷ ts) i (suc j) k t e at = zip_at f h ts (i + 1) j k t e (omega arith)

stands_at : (p : Settings) (events : List ReporterEvent) (j : ℕ) (test : PlanTest) (slots : TestSlotAssignment)
    → IsRunningIn p events j test slots
    → slice_get (tests (limits_told p events)) j ≡ Some (claim_of p.plan.groups test, seat_in (Some slots))
stands_at p events j test slots it =
    zip_at (claim_of p.plan.groups) (λ j. seat_told events (unit_of_test p j)) p.plan.tests 0 j j test it.planned
    (omega arith)
    ∙ ap (λ s. Some (claim_of p.plan.groups test, s))
    (ap (λ b. if b then seat_in (slots_told (unit_of_test p j) events) else Gone) it.running ∙ ap seat_in it.told)

-- so the limits that are kept by the rule are the plan's
pub keeps_plan : (p : Settings) (events : List ReporterEvent) → All (EventFits p) events
    → KeepsLimits (limits_told p events) → KeepsPlanLimits p events
keeps_plan p events all keeps = record {
  all =
      let least = sum_below (taken p.threads) (weight_told events p.threads) (claim_of p.plan.groups) (seat_told events)
      (scripts_in p) (λ t k above. weight_below p events all p.threads t k above) p.plan.tests 0 (scripts_in p)
      (tests_in p) (omega arith) in
      omega (arith, least, keeps.all);
  groups = λ name group found.
      let at = group_at p.plan.groups name group found in
      let kept : sum_by (taken_in at.place group.limit) (tests (limits_told p events)) ≤ group.limit =
      subst (λ limit. sum_by (taken_in at.place limit) (tests (limits_told p events)) ≤ limit) at.limit
      (keeps.groups at.place at.within) in
      let least = sum_below (taken_in at.place group.limit) (group_weight_told events name group.limit)
      (claim_of p.plan.groups) (seat_told events) (scripts_in p)
      (λ t k above. group_weight_below p events all name at.place group.limit t k at.is above) p.plan.tests 0
      (scripts_in p) (tests_in p) (omega arith) in
      omega (arith, least, kept);
}

-- a test in a slot of a group names that, and it is one of the plan
names-group_of_plan : (groups : List Group) (own : Option (List ℕ)) (name : List ℕ)
    → group_of_plan groups own ≡ Some name
    → (own ≡ Some name) × ((group : Group) × (group_named name groups ≡ Some group))
names-group_of_plan groups None name e = cc
names-group_of_plan groups (Some own) name e = by_found (group_named own groups) refl e
  where
    by_found : (o : Option Group) → group_named own groups ≡ o
        → (if is_some o then Some own else None) ≡ Some name
        → (Some own ≡ Some name) × ((group : Group) × (group_named name groups ≡ Some group))
    by_found None is e = cc
    by_found (Some group) is e =
        (e, (group, ap (λ name. group_named name groups) (sym (same_Some own name e)) ∙ is))

-- and the slots of tests are their own
pub has_plan_slots : (p : Settings) (events : List ReporterEvent) → All (EventFits p) events
    → HasOwnSlots (limits_told p events) → HasPlanSlots p events
has_plan_slots p events all own = record {
  told = λ j within runs. slots_of_running p (unit_of_test p j) events all (omega arith) runs;
  group = λ j test slots it. names_own p events j test slots all it;
  own = λ i j a b s t at other same.
      own.all i j s.global (ap (option_and_then slot_of) (stands_at p events i a s at))
      (ap (option_and_then slot_of) (stands_at p events j b t other) ∙ ap Some (sym same));
  group_own = λ i j a b s t g at other first second.
      let by_plan = names-group_of_plan p.plan.groups a.group g.name (named i a s g at first) in
      let place = group_at p.plan.groups g.name by_plan.1.0 by_plan.1.1 in
      own.groups place.place i j g.slot place.within
      (holds_in place.place i a s g at first place.is) (holds_in place.place j b t g other second place.is);
}
  where
    named : (j : ℕ) (test : PlanTest) (slots : TestSlotAssignment) (g : GroupSlot) → IsRunningIn p events j test slots
        → slots.group ≡ Some g → group_of_plan p.plan.groups test.group ≡ Some g.name
    named j test slots g it is =
        sym (names_own p events j test slots all it) ∙ ap (option_map (λ (g : GroupSlot). g.name)) is

    holds_in : (place j : ℕ) (test : PlanTest) (slots : TestSlotAssignment) (g : GroupSlot)
        → IsRunningIn p events j test slots → slots.group ≡ Some g → group_of p.plan.groups g.name ≡ Some place
        → group_slot_at (limits_told p events) place j ≡ Some g.slot
    holds_in place j test slots g it is at =
        let names = names-group_of_plan p.plan.groups test.group g.name (named j test slots g it is) in
        ap (option_and_then (slot_in place)) (stands_at p events j test slots it)
        ∙ ap (λ b. if b then option_map (λ g. g.slot) slots.group else None)
        (claims_name p.plan.groups g.name test place names.0 at)
        ∙ ap (option_map (λ (g : GroupSlot). g.slot)) is
