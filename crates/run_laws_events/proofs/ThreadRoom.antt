-- The room for a test within the limit on all tests, by the plan; and the test that comes first is the one that the
-- rule admits.
use Rattle.std.proofs.Common.{◌≡◌, ℕ, ◌+◌, min, List, Bool, true, false}
use Rattle.std.proofs.Common.{if◌then◌else◌, nat_le, Option, Some, None, is_some}
use Rattle.std.proofs.Common.{option_map, option_and_then, slice_get, refl, ap, sym, ◌∙◌, arith}
use Rattle.std.specs.Option.{option_map_or}
use Rattle.run_events.specs.declared.plan.PlanTest.{PlanTest}
use Rattle.run_events.specs.declared.settings.Settings.{Settings}
use Rattle.run_admission.specs.declared.seat.Candidate.TheVariants.{Skip, Blocked}
use Rattle.run_admission.specs.declared.seat.Claim.{Claim}
use Rattle.run_admission.specs.declared.seat.Admitted.{Admitted}
use Rattle.run_admission.specs.InUse.{Admissions, admitted, admitted_as, candidate_at, claim_of}
use Rattle.run_admission.specs.InUse.{fits_all, taken, weight_in_use}
use Rattle.run_model.specs.declared.happening.Happening.{Happening}
use Rattle.run_model.specs.declared.unit_view.UnitView.{UnitView}
use Rattle.run_model.specs.Admission.{scripts_in, test_of, tests_in, unit_of_test}
use Rattle.run_model.specs.Words.{unit_of}
use Rattle.run_laws.specs.Limits.{limits_with}
use Rattle.run_laws.proofs.board.BoardSeats.{board_seat}
use Rattle.run_laws_events.specs.Admits.{threads_held, threads_taken, weight_of_threads}
use Rattle.run_laws_events.specs.Slots.{slots_held}
use Rattle.run_laws_events.proofs.GroupRoom.{same_sum, used_seat}
use Rattle.run_laws_events.proofs.NextTest.{next_place}
use Rattle.run_laws_events.proofs.PlanUnits.{test_there}

-- what all tests take by the rule is what they take by the plan
parts_same : (p : Settings) (run : List Happening) (j : ℕ) (t : PlanTest) → slice_get p.plan.tests j ≡ Some t
    → threads_held p run (unit_of_test p j)
    ≡ taken p.threads (claim_of p.plan.groups t, board_seat run (unit_of_test p j))
parts_same p run j t at =
    ap (λ o. if is_some (slots_held v) then option_map_or (weight_of_threads p) o 0 else 0) (test_there p j t at)
    ∙ ap (λ b. if b then min t.weight p.threads else 0) (sym (used_seat v))
  where
    v : Option UnitView
    v = unit_of (unit_of_test p j) run

weight_is : (p : Settings) (run : List Happening)
    → weight_in_use (limits_with p (board_seat run)) ≡ threads_taken p run
weight_is p run =
    let none : scripts_in p + 0 ≡ scripts_in p = omega arith in
    sym (same_sum (taken p.threads) (threads_held p run) (claim_of p.plan.groups) (board_seat run)
    (scripts_in p) p.plan.tests 0 (scripts_in p) (tests_in p) refl none (parts_same p run))

-- so there is room for a test by the rule exactly where there is by the plan
pub fits-room : (p : Settings) (run : List Happening) (test : PlanTest)
    → fits_all (limits_with p (board_seat run)) (claim_of p.plan.groups test)
    ≡ nat_le (threads_taken p run + weight_of_threads p test) p.threads
fits-room p run test = ap (λ used. nat_le (used + min test.weight p.threads) p.threads) (weight_is p run)

-- a test that the rule admits, and that isn't to be skipped, fits
pub fits_where_admitted : (a : Admissions) (r : Admitted) (claim : Claim) → admitted a ≡ Some r
    → slice_get a.claims (test_of r) ≡ Some claim → claim.matched ≡ true → fits_all a claim ≡ true
fits_where_admitted a r claim e at matched = by_fit (fits_all a claim) refl
  where
    as_candidate : Option ℕ → Option Admitted
    as_candidate o = option_and_then (admitted_as a) (option_and_then
        (λ test. option_map (λ claim. candidate_at test claim (fits_all a claim)) (slice_get a.claims test)) o)

    it : option_and_then (admitted_as a) (Some (candidate_at (test_of r) claim (fits_all a claim))) ≡ Some r
    it = ap (λ o. option_and_then (admitted_as a)
        (option_map (λ claim. candidate_at (test_of r) claim (fits_all a claim)) o)) (sym at)
        ∙ ap as_candidate (sym (next_place a r e)) ∙ e

    by_fit : (b : Bool) → fits_all a claim ≡ b → b ≡ true
    by_fit true is = refl
    by_fit false is =
        let never : None ≡ Some r =
        ap (λ m. admitted_as a (if m then Blocked (test_of r) else Skip (test_of r))) (sym matched)
        ∙ ap (λ b. admitted_as a (candidate_at (test_of r) claim b)) (sym is) ∙ it in cc
