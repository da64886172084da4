-- The test that comes first is the one that the rule admits next; and the script that is next is the open one.
use Rattle.std.proofs.Common.{◌≡◌, inl, inr, ℕ, zero, suc, ◌+◌, ◌<◌, ◌&&◌, List, [], ◌∷◌, length, get_or}
use Rattle.std.proofs.Common.{Bool, true, false, cond, if◌then◌else◌, nat_lt, Option, Some, None, option_map}
use Rattle.std.proofs.Common.{position, slice_get, refl, ap, sym, subst, ◌∙◌, arith}
use Rattle.std.specs.Prelude.{ℤ, ◌<ℤ◌, int_lt}
use Rattle.std.specs.Cmp.{first_so}
use Rattle.std.specs.List.{list_all, list_any, position_or_len}
use Rattle.std.proofs.lemmas.Int.{ints}
use Rattle.std.proofs.lemmas.List.Folds.{list_any_at}
use Rattle.std.proofs.lemmas.Option.{same_Some, slice_get_within, get_or_from_slice_get}
use Rattle.run_capture.proofs.Facts.{true_lt}
use Rattle.run_events.specs.declared.plan.PlanTest.{PlanTest}
use Rattle.run_events.specs.declared.settings.Settings.{Settings}
use Rattle.run_admission.specs.Kept.{nobody}
use Rattle.run_admission.specs.declared.seat.Seat.TheVariants.{Gone, Waiting}
use Rattle.run_admission.specs.InUse.{Admissions, Test, claim_of, comes_next, is_waiting, may_come, tests}
use Rattle.run_model.specs.declared.happening.Happening.{Happening}
use Rattle.run_model.specs.declared.unit_view.UnitRole.{UnitRole}
use Rattle.run_model.specs.declared.unit_view.UnitRole.TheVariants as roles
use Rattle.run_model.specs.declared.unit_view.UnitView.{UnitView}
use Rattle.run_model.specs.Admission.{is_done, is_last, open_script, seat_as, seat_of, unit_of_test}
use Rattle.run_model.specs.Words.{unit_of}
use Rattle.run_laws.specs.Limits.{limits_with}
use Rattle.run_laws.proofs.board.BoardSeats.{board_seat}
use Rattle.run_laws_events.specs.Order.{ComesFirst, StandsBefore}
use Rattle.run_laws_events.proofs.GroupRoom.{held_back, not_held_back}
use Rattle.run_laws_events.proofs.HeldSlots.{IsTestAt, seat_test, test_seat}
use Rattle.run_laws_events.proofs.IdleLemmas.{first_within, some_next}
use Rattle.run_laws_events.proofs.NextTest.{IsFirst, first_at}
use Rattle.run_laws_events.proofs.PlanUnits.{test_there}

-- what waits is no unit
pub waits_none : (v : Option UnitView) → is_waiting (seat_of v) ≡ true → v ≡ None
waits_none None e = refl
waits_none (Some u) e = by_end (is_last u.phase) u.role e
  where
    by_end : (b : Bool) (role : UnitRole) → is_waiting (if b then Gone else seat_as role) ≡ true → Some u ≡ None
    by_end true role e = cc
    by_end false (roles.Test t) e = cc
    by_end false (roles.Script s) e = cc

-- the rule has a next test where a test may come
some_place : (a : Admissions) (j : ℕ) (t : Test) → slice_get (tests a) j ≡ Some t → may_come a t ≡ true
    → (k : ℕ) × (position (comes_next a) (tests a) ≡ Some k)
some_place a j t at may =
    let some : list_any (may_come a) (tests a) ≡ true =
    list_any_at (may_come a) (tests a) j t (slice_get_within (tests a) j t at)
    (ap (may_come a) (get_or_from_slice_get (tests a) j t t at) ∙ may) in
    let within = first_within (comes_next a) (tests a) (some_next a some) in (
      position_or_len (comes_next a) (tests a),
      ap (λ b. cond b (Some (position_or_len (comes_next a) (tests a))) None) (true_lt _ _ within),
    )

same_so : (a b : ℤ) → int_lt a b ≡ false → int_lt b a ≡ false → a ≡ b
same_so a b e f = grind (arith, ints)

greater_so : (a b : ℤ) → int_lt a b ≡ true → a <ℤ b
greater_so a b e = grind (arith, ints)

-- the test of the plan that comes first is the next one of the rule
pub first_is_next : (p : Settings) (run : List Happening) (j : ℕ) (test : PlanTest)
    → slice_get p.plan.tests j ≡ Some test → ComesFirst p run (unit_of_test p j) test
    → position (comes_next (limits_with p (board_seat run))) (tests (limits_with p (board_seat run))) ≡ Some j
first_is_next p run j test planned first = found.1 ∙ ap Some place
  where
    a : Admissions
    a = limits_with p (board_seat run)

    t : Test
    t = (claim_of p.plan.groups test, Waiting)

    at : slice_get (tests a) j ≡ Some t
    at = test_seat p (board_seat run) j test planned
        ∙ ap (λ v. Some (claim_of p.plan.groups test, seat_of v)) first.waits

    may : may_come a t ≡ true
    may = by_may (may_come a t) refl
      where
        by_may : (b : Bool) → may_come a t ≡ b → b ≡ true
        by_may true is = refl
        by_may false is = absurd (first.free (held_back p run test is))

    found : (k : ℕ) × (position (comes_next a) (tests a) ≡ Some k)
    found = some_place a j t at may

    k : ℕ
    k = found.0

    it : IsFirst a k (get_or (tests a) k nobody)
    it = first_at a k found.1

    other : IsTestAt p (board_seat run) k (get_or (tests a) k nobody)
    other = seat_test p (board_seat run) k (get_or (tests a) k nobody) it.at

    none : unit_of (unit_of_test p k) run ≡ None
    none = waits_none (unit_of (unit_of_test p k) run)
        (ap (λ (t : Test). is_waiting t.1) (sym other.is)
        ∙ first_so (is_waiting (get_or (tests a) k nobody).1) _ it.may)

    here : get_or (tests a) k nobody ≡ (claim_of p.plan.groups other.test, Waiting)
    here = other.is ∙ ap (λ v. (claim_of p.plan.groups other.test, seat_of v)) none

    next : IsFirst a k (claim_of p.plan.groups other.test, Waiting)
    next = subst (IsFirst a k) here it

    before : StandsBefore (unit_of_test p k) other.test (unit_of_test p j) test → k ≡ j
    before stands = absurd (not_held_back p run other.test next.may
        (first.others (unit_of_test p k) other.test (test_there p k other.test other.planned) none stands))

    after : may_come a t ≡ false → k ≡ j
    after is = let never : true ≡ false = sym may ∙ is in cc

    by_place : other.test.priority ≡ test.priority → (b c : Bool) → nat_lt k j ≡ b → nat_lt j k ≡ c → k ≡ j
    by_place same true c e f =
        let below : k < j = grind (arith, e) in before (inr (same, omega (arith, below)))
    by_place same false true e f =
        let below : j < k = grind (arith, f) in after (next.earlier j t at (sym same) below)
    by_place same false false e f = grind (arith, e, f)

    by_order : (b c : Bool) → int_lt test.priority other.test.priority ≡ b
        → int_lt other.test.priority test.priority ≡ c → k ≡ j
    by_order true c e f = before (inl (greater_so test.priority other.test.priority e))
    by_order false true e f = after (next.greater j t at f)
    by_order false false e f =
        by_place (same_so other.test.priority test.priority f e) (nat_lt k j) (nat_lt j k) refl refl

    place : k ≡ j
    place = by_order (int_lt test.priority other.test.priority) (int_lt other.test.priority test.priority) refl refl

-- a place of a list of units is open: none stands there, and each before it is over
pub record OpensAt (us : List (Option UnitView)) (i : ℕ) : Type 0 where
  pub within : i < length us
  pub none : get_or us i None ≡ None
  pub earlier : (j : ℕ) → j < i → is_done (get_or us j None) ≡ true

-- that is so of the script that is next, and of no other
pub opens_so : (us : List (Option UnitView)) (i : ℕ) → open_script us ≡ Some i → OpensAt us i
opens_so [] i e = cc
opens_so (None ∷ us) i e =
    subst (OpensAt (None ∷ us)) (same_Some 0 i e)
    (record { within = omega arith; none = refl; earlier = λ j below. absurd (omega (arith, below)) })
opens_so (Some u ∷ us) i e = by_last (is_last u.phase) refl (λ j is. opens_so us j is) e
  where
    Rest : Type 0
    Rest = (j : ℕ) → open_script us ≡ Some j → OpensAt us j

    longer : (j : ℕ) → is_last u.phase ≡ true → OpensAt us j → OpensAt (Some u ∷ us) (suc j)
    longer j last h = record {
      within = let below = h.within in omega (arith, below);
      none = h.none;
      earlier = earlier;
    }
      where
        earlier : (n : ℕ) → n < suc j → is_done (get_or (Some u ∷ us) n None) ≡ true
        earlier zero below = last
        earlier (suc n) below = h.earlier n (omega (arith, below))

    later : (o : Option ℕ) → open_script us ≡ o → is_last u.phase ≡ true → Rest → option_map (λ i. i + 1) o ≡ Some i
        → OpensAt (Some u ∷ us) i
    later None is last rest e = cc
    later (Some j) is last rest e =
        let next : j + 1 ≡ i = same_Some _ _ e in
        let step : suc j ≡ i = omega (arith, next) in
        subst (OpensAt (Some u ∷ us)) step (longer j last (rest j is))

    by_last : (b : Bool) → is_last u.phase ≡ b → Rest
        → (if b then option_map (λ i. i + 1) (open_script us) else None) ≡ Some i → OpensAt (Some u ∷ us) i
    by_last true last rest e = later (open_script us) refl last rest e
    by_last false last rest e = cc

pub opens_there : (us : List (Option UnitView)) (i : ℕ) → OpensAt us i → open_script us ≡ Some i
opens_there [] i h = absurd (omega (arith, h.within))
opens_there (None ∷ us) zero h = refl
opens_there (None ∷ us) (suc i) h = let never : false ≡ true = h.earlier 0 (omega arith) in cc
opens_there (Some u ∷ us) zero h = let never : Some u ≡ None = h.none in cc
opens_there (Some u ∷ us) (suc i) h =
    let last : is_last u.phase ≡ true = h.earlier 0 (omega arith) in
    let rest : open_script us ≡ Some i = opens_there us i (record {
      within = let below = h.within in omega (arith, below);
      none = h.none;
      earlier = λ j below. h.earlier (suc j) (omega (arith, below));
    }) in
    let next : i + 1 ≡ suc i = omega arith in
    ap (λ b. if b then option_map (λ i. i + 1) (open_script us) else None) last
    ∙ ap (option_map (λ i. i + 1)) rest ∙ ap Some next

-- all of a list are over where each is
pub all_done : (us : List (Option UnitView)) → ((j : ℕ) → j < length us → is_done (get_or us j None) ≡ true)
    → list_all is_done us ≡ true
all_done [] each = refl
all_done (v ∷ us) each =
    ap (λ b. b && list_all is_done us) (each 0 (omega arith))
    ∙ all_done us (λ j below. each (suc j) (omega (arith, below)))
