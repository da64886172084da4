-- Each turn that admits a test admits the one that comes first.
use Rattle.std.proofs.Common.{◌≡◌, ◌⊎◌, inl, inr, ℕ, ◌-◌, ◌<◌, List, [], ◌∷◌, ◌++◌, Bool, true, false, if◌then◌else◌}
use Rattle.std.proofs.Common.{Option, Some, None, option_and_then, reverse, slice_get, refl, ap, sym, subst, ◌∙◌, arith}
use Rattle.std.specs.Prelude.{ℤ, ◌<ℤ◌, int_lt}
use Rattle.std.proofs.lemmas.Int.{ints}
use Rattle.std.proofs.lemmas.List.{reverse-append}
use Rattle.std.proofs.lemmas.Option.{same_Some, slice_get_within}
use Rattle.run_events.specs.declared.plan.PlanTest.{PlanTest}
use Rattle.run_events.specs.declared.settings.Settings.{Settings}
use Rattle.run_events.specs.declared.stress.StressIndex.{StressIndex}
use Rattle.run_admission.specs.declared.seat.Admitted.{Admitted}
use Rattle.run_admission.specs.declared.seat.Admitted.TheVariants.{Skip as Skipped, Run}
use Rattle.run_admission.specs.declared.seat.Seat.TheVariants.{Waiting}
use Rattle.run_admission.specs.InUse.{Admissions, admitted, claim_of, tests}
use Rattle.run_model.specs.declared.entry.Entry.{Entry}
use Rattle.run_model.specs.declared.happening.Happening.{Happening}
use Rattle.run_model.specs.declared.happening.UnitPart.TheVariants.{Joins}
use Rattle.run_model.specs.declared.unit_view.UnitView.{UnitView}
use Rattle.run_model.specs.Admission.{Newcomer, is_script, limits_of, newcomer}
use Rattle.run_model.specs.Admission.{newcomer_as, newcomer_skipped, open_script}
use Rattle.run_model.specs.Admission.{script_newcomer, scripts_in, scripts_of, seat_of, test_newcomer, test_of}
use Rattle.run_model.specs.Admission.{unit_of_test}
use Rattle.run_model.specs.Board.{board}
use Rattle.run_model.specs.Environment.{number}
use Rattle.run_model.specs.Journal.{IsLegal, IsLegalBackward, history, past_of}
use Rattle.run_model.specs.Turns.{deed_on, enabled, happening}
use Rattle.run_model.specs.Words.{clock, sub_run, unit_of, units, was_refused}
use Rattle.run_laws.specs.Limits.{limits_with}
use Rattle.run_laws.proofs.board.BoardSeats.{board_seat}
use Rattle.run_laws.proofs.board.Facts.{test_above}
use Rattle.run_laws.proofs.board.JoinSeats.{limits_on_board}
use Rattle.run_laws.proofs.board.Newcomers.{Newcomes, ScriptComes, new_unit, newcomer_is, script_number, test_number}
use Rattle.run_laws.proofs.board.OnBoard.{frame_of, index_in}
use Rattle.run_laws_events.specs.Names.{test_of_unit}
use Rattle.run_laws_events.specs.Order.{ComesFirst, IsHeldBack, StandsBefore}
use Rattle.run_laws_events.proofs.GroupRoom.{held_back, not_held_back}
use Rattle.run_laws_events.proofs.HeldSlots.{test_seat}
use Rattle.run_laws_events.proofs.Joined.{joins_new}
use Rattle.run_laws_events.proofs.NextTest.{IsFirst, admitted_first}

-- the test of the plan that a unit is stands at a place
pub test_place : (p : Settings) (k : ℕ) (test : PlanTest) → test_of_unit p k ≡ Some test
    → (j : ℕ) × ((k ≡ unit_of_test p j) × (slice_get p.plan.tests j ≡ Some test))
test_place p k test is = by_script (is_script p k) refl is
  where
    by_script : (b : Bool) → is_script p k ≡ b
        → (if b then None else slice_get p.plan.tests (k - scripts_in p)) ≡ Some test
        → (j : ℕ) × ((k ≡ unit_of_test p j) × (slice_get p.plan.tests j ≡ Some test))
    by_script true kind is = cc
    by_script false kind is = (k - scripts_in p, (omega (arith, test_above p k kind), is))

-- a test that an admission makes is the one that the rule admits
ruled : (p : Settings) (index : Option StressIndex) (us : List (Option UnitView)) (new : Newcomer)
    → newcomer p index us ≡ Some new → is_script p (number new.unit) ≡ false
    → (r : Admitted) × ((admitted (limits_of p us) ≡ Some r) × (number new.unit ≡ unit_of_test p (test_of r)))
ruled p index us new e kind = by_kind (newcomer_is p index us new e)
  where
    IsRuled : Type 0
    IsRuled = (r : Admitted) × ((admitted (limits_of p us) ≡ Some r) × (number new.unit ≡ unit_of_test p (test_of r)))

    numbered : (made : Newcomer) → Some made ≡ Some new → number new.unit ≡ number made.unit
    numbered made e = ap (λ (n : Newcomer). number n.unit) (sym (same_Some made new e))

    by_skip : (j : ℕ) (test : PlanTest) (skip : Option (List ℕ)) → newcomer_skipped p index j test skip ≡ Some new
        → number new.unit ≡ unit_of_test p j
    by_skip j test None e = cc
    by_skip j test (Some reason) e = numbered _ e

    by_test : (r : Admitted) (o : Option PlanTest) → newcomer_as p index us r o ≡ Some new
        → number new.unit ≡ unit_of_test p (test_of r)
    by_test r None e = cc
    by_test (Skipped j) (Some test) e = by_skip j test test.skip e
    by_test (Run j global slot) (Some test) e = numbered _ e

    by_admitted : (o : Option Admitted) → admitted (limits_of p us) ≡ o
        → option_and_then (λ a. newcomer_as p index us a (slice_get p.plan.tests (test_of a))) o ≡ Some new → IsRuled
    by_admitted None is e = cc
    by_admitted (Some r) is e = (r, (is, by_test r (slice_get p.plan.tests (test_of r)) e))

    by_kind : Newcomes p index us new ⊎ ScriptComes p index us new → IsRuled
    by_kind (inl found) = by_admitted (admitted (limits_of p us)) refl
        (ap (λ b. if b then test_newcomer p index us
        else option_and_then (λ i. script_newcomer p index i (slice_get p.plan.scripts i))
        (open_script (scripts_of p us))) (sym found.scripts) ∙ e)
    by_kind (inr found) =
        let here : number new.unit ≡ found.place = ap (λ (n : Newcomer). number n.unit) found.is in
        let script : is_script p found.place ≡ true = script_number p found.place
        (slice_get_within p.plan.scripts found.place found.script found.planned) in
        let never : true ≡ false = sym script ∙ ap (is_script p) (sym here) ∙ kind in cc

pub less_so : (a b : ℤ) → a <ℤ b → int_lt a b ≡ true
less_so a b h = grind (arith, ints)

-- that one comes first
pub rule_first : (p : Settings) (run : List Happening) (r : Admitted) (test : PlanTest)
    → admitted (limits_of p (units p run)) ≡ Some r → slice_get p.plan.tests (test_of r) ≡ Some test
    → unit_of (unit_of_test p (test_of r)) run ≡ None → ComesFirst p run (unit_of_test p (test_of r)) test
rule_first p run r test e planned unknown = record {
  waits = unknown;
  free = not_held_back p run test it.may;
  others = λ k other is none before. by_place k other none before (test_place p k other is);
}
  where
    a : Admissions
    a = limits_with p (board_seat run)

    waiting : (j : ℕ) (other : PlanTest) → slice_get p.plan.tests j ≡ Some other
        → unit_of (unit_of_test p j) run ≡ None
        → slice_get (tests a) j ≡ Some (claim_of p.plan.groups other, Waiting)
    waiting j other planned none = test_seat p (board_seat run) j other planned
        ∙ ap (λ v. Some (claim_of p.plan.groups other, seat_of v)) none

    it : IsFirst a (test_of r) (claim_of p.plan.groups test, Waiting)
    it =
        let found = admitted_first a r (ap admitted (sym (limits_on_board p run)) ∙ e) in
        subst (IsFirst a (test_of r))
        (same_Some _ _ (sym found.1.at ∙ waiting (test_of r) test planned unknown)) found.1

    by_place : (k : ℕ) (other : PlanTest) → unit_of k run ≡ None
        → StandsBefore k other (unit_of_test p (test_of r)) test
        → (j : ℕ) × ((k ≡ unit_of_test p j) × (slice_get p.plan.tests j ≡ Some other)) → IsHeldBack p run other
    by_place k other none before (j, (here, planned)) = by_order before
      where
        at : slice_get (tests a) j ≡ Some (claim_of p.plan.groups other, Waiting)
        at = waiting j other planned (ap (λ k. unit_of k run) (sym here) ∙ none)

        by_order : StandsBefore k other (unit_of_test p (test_of r)) test → IsHeldBack p run other
        by_order (inl greater) = held_back p run other
            (it.greater j (claim_of p.plan.groups other, Waiting) at (less_so test.priority other.priority greater))
        by_order (inr (same, earlier)) = held_back p run other
            (it.earlier j (claim_of p.plan.groups other, Waiting) at same (omega arith))

order_so : (p : Settings) (past : List Happening) (e : Entry) → enabled p past e.turn ≡ true → (first : UnitView)
    → (happening p past e).part ≡ Some (Joins first) → (test : PlanTest) → test_of_unit p (number first) ≡ Some test
    → ComesFirst p (sub_run past) (number first) test
order_so p past e en first is test planned =
    by_new (test_place p (number first) test planned)
    (joins_new p (frame_of p past) (was_refused past) (clock past) run e.turn en first is)
  where
    run : List Happening
    run = sub_run past

    index : Option StressIndex
    index = index_in p (frame_of p past)

    by_new : (j : ℕ) × ((number first ≡ unit_of_test p j) × (slice_get p.plan.tests j ≡ Some test))
        → (new : Newcomer) × ((newcomer p index (units p run) ≡ Some new) × (first ≡ new.unit)
        × ((deed_on p (board p past) e.turn).sent ≡ Some new.sent))
        → ComesFirst p run (number first) test
    by_new (j, (here, at)) (new, (e, same, sent)) =
        let named : number new.unit ≡ unit_of_test p j = ap number (sym same) ∙ here in
        let rule = ruled p index (units p run) new e (ap (is_script p) named ∙ test_number p j) in
        let number_is : number first ≡ unit_of_test p (test_of rule.0) = ap number same ∙ rule.1.1 in
        let place : j ≡ test_of rule.0 = omega (arith, here, number_is) in
        let unknown : unit_of (unit_of_test p (test_of rule.0)) run ≡ None =
        ap (λ k. unit_of k run) (sym rule.1.1) ∙ (new_unit p index run new e).unknown in
        subst (λ k. ComesFirst p run k test) (sym number_is) (rule_first p run rule.0 test rule.1.0
        (ap (slice_get p.plan.tests) (sym place) ∙ at) unknown)

pub tests_in_order : (p : Settings) (journal : List Entry) (e : Entry) → IsLegal p (journal ++ e ∷ [])
    → (first : UnitView) → (happening p (past_of p journal) e).part ≡ Some (Joins first)
    → (test : PlanTest) → test_of_unit p (number first) ≡ Some test
    → ComesFirst p (sub_run (past_of p journal)) (number first) test
tests_in_order p journal e legal first is test planned =
    let backward : IsLegalBackward p (e ∷ reverse journal) =
    subst (IsLegalBackward p) (reverse-append journal (e ∷ [])) legal in
    order_so p (history p (reverse journal)) e backward.0 first is test planned
