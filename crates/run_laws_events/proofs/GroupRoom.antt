-- The group of a test, and what the tests that run take of it, by the plan.
use Rattle.std.proofs.Common.{◌≡◌, ℕ, zero, suc, ◌+◌, ◌<◌, ◌≤◌, ◌==◌, ◌||◌, min, List, [], ◌∷◌, length, map, get_or}
use Rattle.std.proofs.Common.{Bool, true, false, not, cond, if◌then◌else◌, nat_eq, nat_le, nat_lt, sum_by, Option, Some}
use Rattle.std.proofs.Common.{None, is_some, is_none, option_map, option_and_then, position, slice_get, slice_index}
use Rattle.std.proofs.Common.{refl, ap, sym, subst, ◌∙◌, arith, eq-eqb}
use Rattle.std.specs.Option.{option_map_or}
use Rattle.std.specs.List.{find, zip, position_or_len, range_with_len}
use Rattle.std.specs.Cmp.Lexicographic.{same_text}
use Rattle.std.proofs.lemmas.List.Folds.{find_at}
use Rattle.std.proofs.lemmas.List.Quantifiers.{position-Some}
use Rattle.std.proofs.lemmas.List.Sums.{sum_by-cons}
use Rattle.std.proofs.lemmas.Option.{same_Some, slice_get-get_or, slice_get_past, get_or_from_slice_get, slice_get-map}
use lib.Pointwise.{pointwise}
use Rattle.run_events.specs.declared.plan.Group.{Group}
use Rattle.run_events.specs.declared.plan.PlanTest.{PlanTest}
use Rattle.run_events.specs.declared.settings.Settings.{Settings}
use Rattle.run_admission.specs.declared.seat.Claim.{Claim}
use Rattle.run_admission.specs.declared.seat.Seat.{Seat}
use Rattle.run_admission.specs.declared.seat.Seat.TheVariants.{Gone, Waiting}
use Rattle.run_admission.specs.InUse.{Admissions, Test, claim_of, fits_beside, fits_its_group, group_of}
use Rattle.run_admission.specs.InUse.{group_weight_in_use, is_in_use, is_of, may_come, taken_in, tests}
use Rattle.run_model.specs.declared.happening.Happening.{Happening}
use Rattle.run_model.specs.declared.unit_view.UnitRole.{UnitRole}
use Rattle.run_model.specs.declared.unit_view.UnitRole.TheVariants as roles
use Rattle.run_model.specs.declared.unit_view.UnitView.{UnitView}
use Rattle.run_model.specs.Admission.{is_last, scripts_in, seat_as, seat_of, tests_in, unit_of_test}
use Rattle.run_model.specs.Words.{unit_of}
use Rattle.run_laws.specs.Limits.{limits_with}
use Rattle.run_laws.proofs.board.BoardSeats.{board_seat}
use Rattle.run_laws_events.specs.Order.{IsHeldBack, group_weight, named_group, names_group, weight_held, weight_in}
use Rattle.run_laws_events.specs.Slots.{slots_held, slots_in_role}
use Rattle.run_laws_events.proofs.LeastSlots.{nameless, same_name}
use Rattle.run_laws_events.proofs.PlanUnits.{test_there}

-- what is found is what stands at the first place
found_at : {X : Type 0} (f : X → Bool) (xs : List X) → find f xs ≡ option_and_then (slice_get xs) (position f xs)
found_at f xs = by_place (nat_lt (position_or_len f xs) (length xs)) refl
  where
    by_place : (b : Bool) → nat_lt (position_or_len f xs) (length xs) ≡ b
        → find f xs ≡ option_and_then (slice_get xs) (cond b (Some (position_or_len f xs)) None)
    by_place true e = find_at f xs
    by_place false e = find_at f xs ∙ slice_get_past xs (position_or_len f xs) (grind (arith, e))

-- the group that a test names stands at the place that it claims
pub group_at_claim : (groups : List Group) (test : PlanTest)
    → named_group groups test ≡ option_and_then (slice_get groups) (claim_of groups test).group
group_at_claim groups test = by_group test.group
  where
    by_group : (o : Option (List ℕ)) → option_and_then (λ name. find (λ g. pointwise nat_eq g.name name) groups) o
        ≡ option_and_then (slice_get groups) (option_and_then (group_of groups) o)
    by_group None = refl
    by_group (Some name) = found_at (λ (g : Group). pointwise nat_eq g.name name) groups

-- there is one, and its name has that place
pub record StandsAt (groups : List Group) (g : ℕ) : Type 0 where
  pub group : Group
  pub at : slice_get groups g ≡ Some group
  pub first : group_of groups group.name ≡ Some g

pub claimed_group : (groups : List Group) (test : PlanTest) (g : ℕ) → (claim_of groups test).group ≡ Some g
    → StandsAt groups g
claimed_group groups test g is = by_group test.group is
  where
    by_group : (o : Option (List ℕ)) → option_and_then (group_of groups) o ≡ Some g → StandsAt groups g
    by_group None is = cc
    by_group (Some name) is =
        let found = position-Some (λ (g : Group). pointwise nat_eq g.name name) groups g nameless is in
        record {
          group = get_or groups g nameless;
          at = slice_get-get_or groups g nameless found.0;
          first = ap (group_of groups) (same_text (get_or groups g nameless).name name (sym found.1)) ∙ is;
        }

-- a test is of the group at a place exactly where it names that
pub is_of-names : (groups : List Group) (g : ℕ) (s : StandsAt groups g) (test : PlanTest)
    → is_of g (claim_of groups test) ≡ names_group s.group test
is_of-names groups g s test = by_group test.group
  where
    none : (own : List ℕ) → pointwise nat_eq s.group.name own ≡ false → (o : Option ℕ) → group_of groups own ≡ o
        → option_map_or (λ h. h == g) o false ≡ false
    none own other None is = refl
    none own other (Some h) is = by_place (h == g) refl
      where
        by_place : (b : Bool) → (h == g) ≡ b → b ≡ false
        by_place false e = refl
        by_place true e =
            let here : h ≡ g = grind (arith, e) in
            let same : s.group.name ≡ own = same_name groups s.group.name own g s.first (is ∙ ap Some here) in
            let found = position-Some (λ (g : Group). pointwise nat_eq g.name own) groups h nameless is in
            let it : get_or groups h nameless ≡ s.group =
            ap (λ h. get_or groups h nameless) here ∙ get_or_from_slice_get groups g s.group nameless s.at in
            let never : true ≡ false =
            sym found.1 ∙ ap (λ (g : Group). pointwise nat_eq g.name own) it ∙ other in cc

    by_name : (own : List ℕ) (b : Bool) → pointwise nat_eq s.group.name own ≡ b
        → option_map_or (λ h. h == g) (group_of groups own) false ≡ b
    by_name own true is =
        let same : s.group.name ≡ own = same_text s.group.name own (sym is) in
        ap (λ o. option_map_or (λ h. h == g) o false) (ap (group_of groups) (sym same) ∙ s.first) ∙ eq-eqb g g refl
    by_name own false is = none own is (group_of groups own) refl

    by_group : (o : Option (List ℕ)) → option_map_or (λ h. h == g) (option_and_then (group_of groups) o) false
        ≡ option_map_or (λ name. pointwise nat_eq s.group.name name) o false
    by_group None = refl
    by_group (Some own) = by_name own (pointwise nat_eq s.group.name own) refl

-- a sum over the numbers of tests is one over what they claim and their seats, where each test's part is the same
pub same_sum : (f : Test → ℕ) (w : ℕ → ℕ) (claim : PlanTest → Claim) (seat : ℕ → Seat) (first : ℕ)
    (ts : List PlanTest) (i a n : ℕ) → n ≡ length ts → first + i ≡ a
    → ((j : ℕ) (t : PlanTest) → slice_get ts j ≡ Some t → w (a + j) ≡ f (claim t, seat (a + j)))
    → sum_by w (range_with_len a n)
    ≡ sum_by f (zip (map claim ts) (map (λ j. seat (first + j)) (range_with_len i n)))
same_sum f w claim seat first [] i a zero many at same = refl
same_sum f w claim seat first [] i a (suc n) many at same = absurd (omega arith)
same_sum f w claim seat first (t ∷ ts) i a zero many at same = absurd (omega arith)
same_sum f w claim seat first (t ∷ ts) i a (suc n) many at same =
    let none : a + 0 ≡ a = omega arith in
    let here : w a ≡ f (claim t, seat (first + i)) =
    subst (λ k. w k ≡ f (claim t, seat k)) none (same 0 t refl) ∙ ap (λ k. f (claim t, seat k)) (sym at) in
    let rest = same_sum f w claim seat first ts (i + 1) (a + 1) n (omega arith) (omega arith) (λ j u is.
    let next : a + suc j ≡ a + 1 + j = omega arith in
    subst (λ k. w k ≡ f (claim u, seat k)) next (same (suc j) u is)) in
    omega (
      arith,
      here,
      rest,
      sum_by-cons w a (range_with_len (a + 1) n),
      sum_by-cons f (claim t, seat (first + i))
          (zip (map claim ts) (map (λ j. seat (first + j)) (range_with_len (i + 1) n))),
    )

-- a unit's seat is in use exactly where it holds slots
pub used_seat : (v : Option UnitView) → is_in_use (seat_of v) ≡ is_some (slots_held v)
used_seat None = refl
used_seat (Some u) = by_last (is_last u.phase) u.role
  where
    by_last : (b : Bool) (role : UnitRole) → is_in_use (if b then Gone else seat_as role)
        ≡ is_some (if b then None else slots_in_role role)
    by_last true role = refl
    by_last false (roles.Test t) = refl
    by_last false (roles.Script s) = refl

-- what a group's tests take by the rule is what they take by the plan
part_is : (named used : Bool) (weight : ℕ)
    → (if used then (if named then weight else 0) else 0) ≡ (if named then (if used then weight else 0) else 0)
part_is true true weight = refl
part_is true false weight = refl
part_is false true weight = refl
part_is false false weight = refl

parts_same : (p : Settings) (run : List Happening) (g : ℕ) (s : StandsAt p.plan.groups g) (j : ℕ) (t : PlanTest)
    → slice_get p.plan.tests j ≡ Some t
    → weight_held p run s.group (unit_of_test p j)
    ≡ taken_in g s.group.limit (claim_of p.plan.groups t, board_seat run (unit_of_test p j))
parts_same p run g s j t at =
    ap (λ o. if is_some (slots_held v) then option_map_or (weight_in s.group) o 0 else 0) (test_there p j t at)
    ∙ part_is (names_group s.group t) (is_some (slots_held v)) weight
    ∙ ap (λ b. if b then (if is_some (slots_held v) then weight else 0) else 0) (sym (is_of-names p.plan.groups g s t))
    ∙ ap (λ b. if is_of g (claim_of p.plan.groups t) then (if b then weight else 0) else 0) (sym (used_seat v))
  where
    v : Option UnitView
    v = unit_of (unit_of_test p j) run

    weight : ℕ
    weight = min t.weight s.group.limit

limit_is : (groups : List Group) (g : ℕ) (s : StandsAt groups g)
    → slice_index (map (λ (g : Group). g.limit) groups) g ≡ s.group.limit
limit_is groups g s = get_or_from_slice_get (map (λ (g : Group). g.limit) groups) g s.group.limit 0
    (slice_get-map (λ (g : Group). g.limit) groups g ∙ ap (option_map (λ (g : Group). g.limit)) s.at)

weight_is : (p : Settings) (run : List Happening) (g : ℕ) (s : StandsAt p.plan.groups g)
    → group_weight_in_use (limits_with p (board_seat run)) g ≡ group_weight p run s.group
weight_is p run g s =
    let none : scripts_in p + 0 ≡ scripts_in p = omega arith in
    ap (λ limit. sum_by (taken_in g limit) (tests (limits_with p (board_seat run)))) (limit_is p.plan.groups g s)
    ∙ sym (same_sum (taken_in g s.group.limit) (weight_held p run s.group) (claim_of p.plan.groups) (board_seat run)
    (scripts_in p) p.plan.tests 0 (scripts_in p) (tests_in p) refl none (parts_same p run g s))

-- so there is room for a test in its group by the rule exactly where there is by the plan
room_is : (p : Settings) (run : List Happening) (test : PlanTest) (g : ℕ) (s : StandsAt p.plan.groups g)
    → (claim_of p.plan.groups test).group ≡ Some g
    → fits_its_group (limits_with p (board_seat run)) (claim_of p.plan.groups test)
    ≡ nat_le (group_weight p run s.group + min test.weight s.group.limit) s.group.limit
room_is p run test g s is =
    ap (λ o. option_map_or (λ g. fits_beside (group_weight_in_use a g) (slice_index a.limits g) test.weight) o true) is
    ∙ ap (λ used. fits_beside used (slice_index a.limits g) test.weight) (weight_is p run g s)
    ∙ ap (λ limit. fits_beside (group_weight p run s.group) limit test.weight) (limit_is p.plan.groups g s)
  where
    a : Admissions
    a = limits_with p (board_seat run)

over : (a b : ℕ) → nat_le a b ≡ false → b < a
over a b e = grind (arith, e)

within : (a b : ℕ) → nat_le a b ≡ true → a ≤ b
within a b e = grind (arith, e)

-- a test that waits and may not come is held back
pub held_back : (p : Settings) (run : List Happening) (test : PlanTest)
    → may_come (limits_with p (board_seat run)) (claim_of p.plan.groups test, Waiting) ≡ false → IsHeldBack p run test
held_back p run test e = by_skip test.skip refl e
  where
    a : Admissions
    a = limits_with p (board_seat run)

    by_group : (o : Option ℕ) → test.skip ≡ None → (claim_of p.plan.groups test).group ≡ o
        → fits_its_group a (claim_of p.plan.groups test) ≡ false → IsHeldBack p run test
    by_group None matched at e =
        let never : true ≡ false =
        ap (λ o. option_map_or (λ g. fits_beside (group_weight_in_use a g) (slice_index a.limits g) test.weight) o true)
        (sym at) ∙ e in cc
    by_group (Some g) matched at e =
        let s = claimed_group p.plan.groups test g at in
        record {
          matched = matched;
          group = s.group;
          named = group_at_claim p.plan.groups test ∙ ap (option_and_then (slice_get p.plan.groups)) at ∙ s.at;
          full = over _ _ (sym (room_is p run test g s at) ∙ e);
        }

    by_skip : (o : Option (List ℕ)) → test.skip ≡ o
        → (not (is_none o) || fits_its_group a (claim_of p.plan.groups test)) ≡ false → IsHeldBack p run test
    by_skip None is e = by_group (claim_of p.plan.groups test).group is refl e
    by_skip (Some reason) is e = cc

-- and one that may come isn't
pub not_held_back : (p : Settings) (run : List Happening) (test : PlanTest)
    → may_come (limits_with p (board_seat run)) (claim_of p.plan.groups test, Waiting) ≡ true
    → IsHeldBack p run test → ⊥
not_held_back p run test may held = by_group (claim_of p.plan.groups test).group refl
  where
    a : Admissions
    a = limits_with p (board_seat run)

    fits : fits_its_group a (claim_of p.plan.groups test) ≡ true
    fits = ap (λ o. not (is_none o) || fits_its_group a (claim_of p.plan.groups test)) (sym held.matched) ∙ may

    by_group : (o : Option ℕ) → (claim_of p.plan.groups test).group ≡ o → ⊥
    by_group None at =
        let never : None ≡ Some held.group = sym (group_at_claim p.plan.groups test
        ∙ ap (option_and_then (slice_get p.plan.groups)) at) ∙ held.named in cc
    by_group (Some g) at =
        let s = claimed_group p.plan.groups test g at in
        let same : s.group ≡ held.group = same_Some _ _ (sym (group_at_claim p.plan.groups test
        ∙ ap (option_and_then (slice_get p.plan.groups)) at ∙ s.at) ∙ held.named) in
        let small : group_weight p run held.group + min test.weight held.group.limit ≤ held.group.limit =
        subst (λ (g : Group). group_weight p run g + min test.weight g.limit ≤ g.limit) same
        (within _ _ (sym (room_is p run test g s at) ∙ fits)) in
        let full : held.group.limit < group_weight p run held.group + min test.weight held.group.limit = held.full in
        absurd (omega (arith, small, full))
