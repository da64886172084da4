-- A script or test can be admitted exactly where one comes next and has room.
use Rattle.std.proofs.Common.{◌≡◌, ◌⊎◌, inl, inr, ℕ, ◌-◌, ◌<◌, ◌≤◌, List, length, get_or, Bool, true}
use Rattle.std.proofs.Common.{false, not, if◌then◌else◌, nat_le, Option, Some, None, is_none, is_some, option_map}
use Rattle.std.proofs.Common.{option_and_then, slice_get, refl, ap, sym, subst, ◌∙◌, arith}
use Rattle.std.specs.Prelude.{◌↔◌}
use Rattle.std.proofs.lemmas.Bool.{and_from, and_parts}
use Rattle.std.proofs.lemmas.List.{get_or-take, length-take}
use Rattle.std.proofs.lemmas.Option.{slice_get-map}
use Rattle.run_events.specs.declared.plan.PlanScript.{PlanScript}
use Rattle.run_events.specs.declared.plan.PlanTest.{PlanTest}
use Rattle.run_events.specs.declared.settings.Settings.{Settings}
use Rattle.run_events.specs.declared.stress.StressIndex.{StressIndex}
use Rattle.run_events.specs.declared.turn.Turn.TheVariants.{Admit}
use Rattle.run_admission.specs.declared.seat.Admitted.{Admitted}
use Rattle.run_admission.specs.declared.seat.Candidate.TheVariants.{Skip, Fits, Blocked}
use Rattle.run_admission.specs.declared.seat.Claim.{Claim}
use Rattle.run_admission.specs.InUse.{Admissions, admitted, candidate, candidate_at, claim_of, fits_all}
use Rattle.run_model.specs.declared.entry.Entry.{Entry}
use Rattle.run_model.specs.declared.happening.Happening.{Happening}
use Rattle.run_model.specs.declared.phase.Phase.{Phase}
use Rattle.run_model.specs.declared.phase.Phase.TheVariants.{Over}
use Rattle.run_model.specs.declared.unit_view.UnitView.{UnitView}
use Rattle.run_model.specs.Admission.{Newcomer, is_done, is_last, limits_of, newcomer, newcomer_as, open_script}
use Rattle.run_model.specs.Admission.{script_newcomer, scripts_in, scripts_of, scripts_over, test_newcomer, test_of}
use Rattle.run_model.specs.Admission.{unit_of_test}
use Rattle.run_model.specs.Journal.{IsLegalBackward, history}
use Rattle.run_model.specs.Turns.{enabled}
use Rattle.run_model.specs.Words.{is_on, is_over, sub_run, unit_of, units}
use Rattle.run_laws.specs.Limits.{limits_with}
use Rattle.run_laws.proofs.board.BoardSeats.{board_seat}
use Rattle.run_laws.proofs.board.JoinSeats.{limits_on_board}
use Rattle.run_laws.proofs.board.Newcomers.{seats}
use Rattle.run_laws.proofs.board.OnBoard.{frame_of, index_in, units-at, units-length}
use Rattle.run_laws.proofs.board.Ordered.{board_over}
use Rattle.run_laws_events.specs.Admits.{ScriptComesNext, TestHasRoom, IsOverAfter}
use Rattle.run_laws_events.specs.Order.{ComesFirst}
use Rattle.run_laws_events.proofs.IdleBoards.{on_going}
use Rattle.run_laws_events.proofs.IdleLemmas.{admits_test, get_within}
use Rattle.run_laws_events.proofs.NextUnits.{OpensAt, all_done, first_is_next, opens_so, opens_there}
use Rattle.run_laws_events.proofs.PlanUnits.{test_there}
use Rattle.run_laws_events.proofs.TestOrder.{rule_first, test_place}
use Rattle.run_laws_events.proofs.ThreadRoom.{fits-room, fits_where_admitted}

-- a unit is over by the rule exactly where it was admitted and its phase is the last
done_over : (run : List Happening) (k : ℕ) → is_done (unit_of k run) ≡ true → IsOverAfter run k
done_over run k e = by_unit (unit_of k run) refl e
  where
    last : (ph : Phase) → is_last ph ≡ true → ph ≡ Over
    last Over e = refl
    last ph e = cc

    by_unit : (v : Option UnitView) → unit_of k run ≡ v → is_done v ≡ true → IsOverAfter run k
    by_unit None is e = cc
    by_unit (Some u) is e = record { unit = u; admitted = is; over = last u.phase e }

over_done : (run : List Happening) (k : ℕ) → IsOverAfter run k → is_done (unit_of k run) ≡ true
over_done run k h = ap is_done h.admitted ∙ ap is_last h.over

-- the scripts stand on the board
script_at : (p : Settings) (run : List Happening) (k : ℕ) → k < scripts_in p
    → get_or (scripts_of p (units p run)) k None ≡ unit_of k run
script_at p run k below =
    get_or-take (scripts_in p) (units p run) k None below ∙ units-at p run k (omega (arith, below))

scripts-length : (p : Settings) (run : List Happening) → length (scripts_of p (units p run)) ≡ scripts_in p
scripts-length p run = omega (arith, length-take (scripts_in p) (units p run), units-length p run)

-- what the next admission makes, where not all scripts are over, and where all are
script_made : (p : Settings) (index : Option StressIndex) (us : List (Option UnitView)) → Option Newcomer
script_made p index us =
    option_and_then (λ i. script_newcomer p index i (slice_get p.plan.scripts i)) (open_script (scripts_of p us))

-- a script is made exactly where one comes next
script_next : (p : Settings) (index : Option StressIndex) (run : List Happening)
    → is_some (script_made p index (units p run)) ≡ true → ScriptComesNext p run
unfolding script_made
script_next p index run e = by_open (open_script (scripts_of p us)) refl e
  where
    us : List (Option UnitView)
    us = units p run

    by_open : (o : Option ℕ) → open_script (scripts_of p us) ≡ o
        → is_some (option_and_then (λ i. script_newcomer p index i (slice_get p.plan.scripts i)) o) ≡ true
        → ScriptComesNext p run
    by_open None is e = cc
    by_open (Some i) is e =
        let h = opens_so (scripts_of p us) i is in
        let inside = h.within in
        let below : i < scripts_in p = omega (arith, inside, scripts-length p run) in
        record {
          number = i;
          script = below;
          waits = sym (script_at p run i below) ∙ h.none;
          earlier = λ k under. done_over run k (ap is_done (sym (script_at p run k (omega (arith, under, below))))
              ∙ h.earlier k under);
        }

next_script : (p : Settings) (index : Option StressIndex) (run : List Happening) → ScriptComesNext p run
    → is_some (script_made p index (units p run)) ≡ true
unfolding script_made
next_script p index run h =
    ap (λ o. is_some (option_and_then (λ i. script_newcomer p index i (slice_get p.plan.scripts i)) o))
    (opens_there (scripts_of p us) h.number opens)
    ∙ ap (λ o. is_some (script_newcomer p index h.number o)) found.1
  where
    us : List (Option UnitView)
    us = units p run

    opens : OpensAt (scripts_of p us) h.number
    opens = record {
      within = let below = h.script in omega (arith, below, scripts-length p run);
      none = script_at p run h.number h.script ∙ h.waits;
      earlier = λ j below. let under = h.script in
          ap is_done (script_at p run j (omega (arith, below, under))) ∙ over_done run j (h.earlier j below);
    }

    found : (script : PlanScript) × (slice_get p.plan.scripts h.number ≡ Some script)
    found = get_within p.plan.scripts h.number h.script

-- a test is made exactly where one comes next and has room
within_so : (a b : ℕ) → nat_le a b ≡ true → a ≤ b
within_so a b e = grind (arith, e)

so_within : (a b : ℕ) → a ≤ b → nat_le a b ≡ true
so_within a b h = grind (arith, h)

claim_at : (p : Settings) (run : List Happening) (j : ℕ) (test : PlanTest) → slice_get p.plan.tests j ≡ Some test
    → slice_get (limits_with p (board_seat run)).claims j ≡ Some (claim_of p.plan.groups test)
claim_at p run j test planned =
    slice_get-map (claim_of p.plan.groups) p.plan.tests j ∙ ap (option_map (claim_of p.plan.groups)) planned

test_next : (p : Settings) (index : Option StressIndex) (run : List Happening)
    → scripts_over p (units p run) ≡ true → is_some (test_newcomer p index (units p run)) ≡ true → TestHasRoom p run
test_next p index run all e = by_admitted (admitted (limits_of p us)) refl e
  where
    us : List (Option UnitView)
    us = units p run

    a : Admissions
    a = limits_with p (board_seat run)

    by_admitted : (o : Option Admitted) → admitted (limits_of p us) ≡ o
        → is_some (option_and_then (λ r. newcomer_as p index us r (slice_get p.plan.tests (test_of r))) o) ≡ true
        → TestHasRoom p run
    by_admitted None is e = cc
    by_admitted (Some r) is e =
        let it = seats p us r is in
        let within = it.within in
        let unknown : unit_of (unit_of_test p (test_of r)) run ≡ None =
        sym (units-at p run (unit_of_test p (test_of r)) (omega (arith, within, units-length p run))) ∙ it.absent in
        record {
          scripts = λ k below. done_over run k (board_over p run all k below);
          number = unit_of_test p (test_of r);
          test = it.test;
          planned = test_there p (test_of r) it.test it.planned;
          first = rule_first p run r it.test is it.planned unknown;
          room = λ matched. within_so _ _ (sym (fits-room p run it.test)
              ∙ fits_where_admitted a r (claim_of p.plan.groups it.test)
              (ap admitted (sym (limits_on_board p run)) ∙ is) (claim_at p run (test_of r) it.test it.planned)
              (ap is_none matched));
        }

next_test : (p : Settings) (index : Option StressIndex) (run : List Happening) → TestHasRoom p run
    → is_some (test_newcomer p index (units p run)) ≡ true
next_test p index run h = by_place (test_place p h.number h.test h.planned)
  where
    us : List (Option UnitView)
    us = units p run

    a : Admissions
    a = limits_with p (board_seat run)

    claim : Claim
    claim = claim_of p.plan.groups h.test

    by_skip : (j : ℕ) (skip : Option (List ℕ)) → h.test.skip ≡ skip
        → candidate_at j claim (fits_all a claim) ≡ (if is_none skip then Fits j else Skip j)
    by_skip j (Some reason) is =
        ap (λ o. if is_none o then (if fits_all a claim then Fits j else Blocked j) else Skip j) is
    by_skip j None is =
        ap (λ o. if is_none o then (if fits_all a claim then Fits j else Blocked j) else Skip j) is
        ∙ ap (λ b. if b then Fits j else Blocked j)
        (fits-room p run h.test ∙ so_within _ _ (h.room is))

    by_place : (j : ℕ) × ((h.number ≡ unit_of_test p j) × (slice_get p.plan.tests j ≡ Some h.test))
        → is_some (test_newcomer p index us) ≡ true
    by_place (j, (here, planned)) = admits_test p index us j h.test h.test.skip planned refl
        (ap candidate (limits_on_board p run)
        ∙ ap (option_and_then (λ test. option_map (λ claim. candidate_at test claim (fits_all a claim))
        (slice_get a.claims test)))
        (first_is_next p run j h.test planned (subst (λ k. ComesFirst p run k h.test) here h.first))
        ∙ ap (option_map (λ claim. candidate_at j claim (fits_all a claim))) (claim_at p run j h.test planned)
        ∙ ap Some (by_skip j h.test.skip refl))

-- so what comes next is what an admission makes
abbrev Next : Settings → List Happening → Type 0
Next p run = ScriptComesNext p run ⊎ TestHasRoom p run

newcomer_next : (p : Settings) (index : Option StressIndex) (run : List Happening)
    → is_some (newcomer p index (units p run)) ≡ true → Next p run
unfolding script_made
newcomer_next p index run e = by_scripts (scripts_over p us) refl e
  where
    us : List (Option UnitView)
    us = units p run

    by_scripts : (b : Bool) → scripts_over p us ≡ b
        → is_some (if b then test_newcomer p index us else script_made p index us) ≡ true → Next p run
    by_scripts true all e = inr (test_next p index run all e)
    by_scripts false some e = inl (script_next p index run e)

next_newcomer : (p : Settings) (index : Option StressIndex) (run : List Happening) → Next p run
    → is_some (newcomer p index (units p run)) ≡ true
unfolding script_made
next_newcomer p index run next = by_scripts (scripts_over p us) refl next
  where
    us : List (Option UnitView)
    us = units p run

    made : Bool → Bool
    made b = is_some (if b then test_newcomer p index us else script_made p index us)

    by_scripts : (b : Bool) → scripts_over p us ≡ b → Next p run → is_some (newcomer p index us) ≡ true
    by_scripts true all (inl h) =
        let never : false ≡ true = sym (ap is_done h.waits) ∙ board_over p run all h.number h.script in cc
    by_scripts true all (inr h) =
        ap (λ b. is_some (if b then test_newcomer p index us else script_made p index us)) all
        ∙ next_test p index run h
    by_scripts false some (inl h) =
        ap (λ b. is_some (if b then test_newcomer p index us else script_made p index us)) some
        ∙ next_script p index run h
    by_scripts false some (inr h) =
        let all : scripts_over p us ≡ true =
        all_done (scripts_of p us) (λ j below.
        let under : j < scripts_in p = omega (arith, below, scripts-length p run) in
        ap is_done (script_at p run j under) ∙ over_done run j (h.scripts j under)) in
        let never : true ≡ false = sym all ∙ some in cc

-- and the sub-run that is on admits it
pub admits_room : (p : Settings) (backward : List Entry) → IsLegalBackward p backward
    → (enabled p (history p backward) Admit ≡ true)
    ↔ ((is_on (sub_run (history p backward)) ≡ true)
    × (ScriptComesNext p (sub_run (history p backward)) ⊎ TestHasRoom p (sub_run (history p backward))))
admits_room p backward legal = (forward, back)
  where
    run : List Happening
    run = sub_run (history p backward)

    index : Option StressIndex
    index = index_in p (frame_of p (history p backward))

    some : Bool
    some = is_some (newcomer p index (units p run))

    forward : enabled p (history p backward) Admit ≡ true → (is_on run ≡ true) × Next p run
    forward e =
        let on = and_parts (is_on run) _ (and_parts (not (is_over (history p backward))) _ e).1 in
        (on.0, newcomer_next p index run on.1)

    back : (is_on run ≡ true) × Next p run → enabled p (history p backward) Admit ≡ true
    back (on, next) =
        and_from _ _ (ap not (on_going p backward legal on)) (and_from _ _ on (next_newcomer p index run next))
