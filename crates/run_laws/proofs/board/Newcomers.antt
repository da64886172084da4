-- Who is admitted, and as what.
use Rattle.std.proofs.Common.{◌≡◌, ◌⊎◌, inl, inr, ℕ, suc, ◌+◌, ◌-◌, ◌<◌, List, [], ◌∷◌, drop, length, get_or, map, Bool}
use Rattle.std.proofs.Common.{true, false, if◌then◌else◌, Option, Some, None, option_and_then, option_map, is_none}
use Rattle.std.proofs.Common.{is_some, slice_get, refl, ap, sym, subst, ◌∙◌, arith}
use Rattle.std.proofs.lemmas.Bool.Decides.{nat_tests}
use Rattle.std.proofs.lemmas.List.{get_or-drop, get_or-take, get_or-map, length-drop, length-map}
use Rattle.std.proofs.lemmas.Option.{slice_get_within, slice_get-map, same_Some}
use Rattle.run_events.specs.declared.settings.Settings.{Settings}
use Rattle.run_events.specs.declared.plan.PlanScript.{PlanScript}
use Rattle.run_events.specs.declared.plan.PlanTest.{PlanTest}
use Rattle.run_events.specs.declared.plan.TestSlotAssignment.{TestSlotAssignment}
use Rattle.run_events.specs.declared.message.Message.{Message}
use Rattle.run_events.specs.declared.result.ScriptEnv.TheVariants.{Unread}
use Rattle.run_admission.specs.declared.seat.Claim.{Claim}
use Rattle.run_admission.specs.declared.seat.Seat.TheVariants.{Gone}
use Rattle.run_admission.specs.declared.seat.Admitted.{Admitted}
use Rattle.run_admission.specs.declared.seat.Admitted.TheVariants.{Skip as Skipped, Run}
use Rattle.run_admission.specs.InUse.{is_waiting, claim_of, admitted}
use Rattle.run_model.specs.declared.happening.Happening.{Happening}
use Rattle.run_model.specs.declared.unit_view.UnitRole.{UnitRole}
use Rattle.run_model.specs.declared.unit_view.UnitRole.TheVariants as roles
use Rattle.run_model.specs.declared.unit_view.UnitView.{UnitView}
use Rattle.run_model.specs.Environment.{number}
use Rattle.run_model.specs.Words.{unit_of, units}
use Rattle.run_model.specs.Admission.{is_last, is_script, scripts_in, units_in, unit_of_test, scripts_over, seat_as}
use Rattle.run_model.specs.Admission.{seat_of, limits_of, slots_of, first_view, script_view, handed_to, Newcomer}
use Rattle.run_model.specs.Admission.{skipped_newcomer, started_newcomer, terms_of, terms_if, script_terms_if}
use Rattle.run_model.specs.Admission.{unit_terms, newcomer_skipped, newcomer_as, test_of, test_newcomer, scripts_of}
use Rattle.run_model.specs.Admission.{open_script, script_newcomer, newcomer, index_of_role}
use Rattle.run_model.specs.Accounts.{is_skip, is_mismatched}
use Rattle.run_events.specs.declared.stress.StressIndex.{StressIndex}
use Rattle.run_laws.proofs.board.Holds.{is_script_role}
use Rattle.run_laws.proofs.units.AccountLemmas.{IsFirst}
use Rattle.run_laws.proofs.board.Admitted.{IsAdmitted, runs, admitted_is}
use Rattle.run_laws.proofs.board.OnBoard.{units-at}

-- what becomes of a test that is admitted: it is skipped, or it starts in the slots that it gets
abbrev pub Becomes : Settings → Option StressIndex → List (Option UnitView) → ℕ → PlanTest → Newcomer → Type 0
Becomes p index us place test new =
    ((reason : List ℕ) × (test.skip ≡ Some reason)
    × (new ≡ skipped_newcomer p index (unit_of_test p place) test reason))
    ⊎ ((test.skip ≡ None)
    × ((global : ℕ) × ((slot : Option ℕ) × (admitted (limits_of p us) ≡ Some (Run place global slot))
    × (new ≡ started_newcomer
    (first_view p index (unit_of_test p place) (slots_of test global slot) (handed_to p us test) test)))))

-- who is admitted: a test of the plan that wasn't yet
pub record Newcomes (p : Settings) (index : Option StressIndex) (us : List (Option UnitView))
    (new : Newcomer) : Type 0 where
  pub place : ℕ
  pub test : PlanTest
  pub absent : get_or (drop (scripts_in p) us) place None ≡ None
  pub planned : slice_get p.plan.tests place ≡ Some test
  pub scripts : scripts_over p us ≡ true
  pub is : Becomes p index us place test new

-- or the next script, which wasn't yet either
pub record ScriptComes (p : Settings) (index : Option StressIndex) (us : List (Option UnitView))
    (new : Newcomer) : Type 0 where
  pub place : ℕ
  pub script : PlanScript
  pub absent : get_or us place None ≡ None
  pub planned : slice_get p.plan.scripts place ≡ Some script
  pub is : new ≡ started_newcomer (script_view p index place script)

-- a test that waits isn't a unit yet
absent_where : (v : Option UnitView) → is_waiting (seat_of v) ≡ true → v ≡ None
absent_where None e = refl
absent_where (Some u) e = by_end (is_last u.phase) u.role e
  where
    by_end : (b : Bool) (role : UnitRole) → is_waiting (if b then Gone else seat_as role) ≡ true → Some u ≡ None
    by_end true role e = cc
    by_end false (roles.Test t) e = cc
    by_end false (roles.Script s) e = cc

-- the place of an open script is that of no unit yet
open_absent : (us : List (Option UnitView)) (i : ℕ) → open_script us ≡ Some i → get_or us i None ≡ None
open_absent [] i e = cc
open_absent (None ∷ us) i e = let first : 0 ≡ i = same_Some _ _ e in
    subst (λ i. get_or (None ∷ us) i None ≡ None) first refl
open_absent (Some u ∷ us) i e = by_last (is_last u.phase) (λ j. open_absent us j) e
  where
    Rest : Type 0
    Rest = (j : ℕ) → open_script us ≡ Some j → get_or us j None ≡ None

    later : (o : Option ℕ) → open_script us ≡ o → Rest → option_map (λ i. i + 1) o ≡ Some i
        → get_or (Some u ∷ us) i None ≡ None
    later None is rest e = cc
    later (Some j) is rest e =
        let next : j + 1 ≡ i = same_Some _ _ e in
        let step : suc j ≡ i = omega arith in
        subst (λ i. get_or (Some u ∷ us) i None ≡ None) step (rest j is)

    by_last : (b : Bool) → Rest → (if b then option_map (λ i. i + 1) (open_script us) else None) ≡ Some i
        → get_or (Some u ∷ us) i None ≡ None
    by_last true rest e = later (open_script us) refl rest e
    by_last false rest e = cc

none_there : (x : Option (List ℕ)) → is_none x ≡ true → x ≡ None
none_there None e = refl
none_there (Some reason) e = cc

-- what waits is no unit
absent : (p : Settings) (us : List (Option UnitView)) (j : ℕ) → j < length (map seat_of (drop (scripts_in p) us))
    → is_waiting (get_or (map seat_of (drop (scripts_in p) us)) j Gone) ≡ true
    → get_or (drop (scripts_in p) us) j None ≡ None
absent p us j within waits =
    let inside : j < length (drop (scripts_in p) us) =
    omega (arith, length-map (drop (scripts_in p) us) seat_of) in
    absent_where _ (ap is_waiting (sym (get_or-map seat_of (drop (scripts_in p) us) j None Gone inside)) ∙ waits)

-- it claims what the plan says of it
claimed : (p : Settings) (j : ℕ) (claim : Claim) (test : PlanTest) → slice_get p.plan.tests j ≡ Some test
    → slice_get (map (claim_of p.plan.groups) p.plan.tests) j ≡ Some claim → claim_of p.plan.groups test ≡ claim
claimed p j claim test planned claims = same_Some _ _ (
    ap (option_map (claim_of p.plan.groups)) (sym planned)
    ∙ sym (slice_get-map (claim_of p.plan.groups) p.plan.tests j) ∙ claims)

-- a test that is admitted is one of the plan and no unit yet, and becomes one
pub record Seats (p : Settings) (us : List (Option UnitView)) (r : Admitted) : Type 0 where
  pub test : PlanTest
  pub planned : slice_get p.plan.tests (test_of r) ≡ Some test
  pub within : unit_of_test p (test_of r) < length us
  pub absent : get_or us (unit_of_test p (test_of r)) None ≡ None
  pub matched : is_none test.skip ≡ runs r

some_of : {A B : Type 0} (f : A → B) (o : Option A) (y : B) → option_map f o ≡ Some y → (x : A) × (o ≡ Some x)
some_of f None y e = cc
some_of f (Some x) y e = (x, refl)

pub seats : (p : Settings) (us : List (Option UnitView)) (r : Admitted) → admitted (limits_of p us) ≡ Some r
    → Seats p us r
seats p us r e =
    let it = (admitted_is (limits_of p us) r e).0 in
    let found = some_of (claim_of p.plan.groups) (slice_get p.plan.tests (test_of r)) it.claim
    (sym (slice_get-map (claim_of p.plan.groups) p.plan.tests (test_of r)) ∙ it.claimed) in
    let below = it.within in
    record {
      test = found.0;
      planned = found.1;
      within = omega (arith, below, length-map (drop (scripts_in p) us) seat_of, length-drop (scripts_in p) us);
      absent = sym (get_or-drop (scripts_in p) us (test_of r) None) ∙ absent p us (test_of r) it.within it.waits;
      matched = ap (λ (c : Claim). c.matched) (claimed p (test_of r) it.claim found.0 found.1 it.claimed) ∙ it.matched;
    }

-- so something becomes of it
pub becomes : (p : Settings) (index : Option StressIndex) (us : List (Option UnitView)) (r : Admitted)
    → admitted (limits_of p us) ≡ Some r
    → is_some (newcomer_as p index us r (slice_get p.plan.tests (test_of r))) ≡ true
becomes p index us r e =
    let it = seats p us r e in ap (λ o. is_some (newcomer_as p index us r o)) it.planned ∙ made r it.test it.matched
  where
    skipped : (j : ℕ) (test : PlanTest) (skip : Option (List ℕ)) → is_none skip ≡ false
        → is_some (newcomer_skipped p index j test skip) ≡ true
    skipped j test None h = cc
    skipped j test (Some reason) h = refl

    made : (r : Admitted) (test : PlanTest) → is_none test.skip ≡ runs r
        → is_some (newcomer_as p index us r (Some test)) ≡ true
    made (Skipped j) test h = skipped j test test.skip h
    made (Run j global slot) test h = refl

pub newcomer_is : (p : Settings) (index : Option StressIndex) (us : List (Option UnitView)) (new : Newcomer)
    → newcomer p index us ≡ Some new
    → Newcomes p index us new ⊎ ScriptComes p index us new
newcomer_is p index us new e = by_scripts (scripts_over p us) refl e
  where
    skipped : (j : ℕ) (test : PlanTest) (skip : Option (List ℕ)) → scripts_over p us ≡ true → test.skip ≡ skip
        → slice_get p.plan.tests j ≡ Some test → IsAdmitted (limits_of p us) j false
        → newcomer_skipped p index j test skip ≡ Some new → Newcomes p index us new
    skipped j test None over es planned it e = cc
    skipped j test (Some reason) over es planned it e = record {
      place = j;
      test = test;
      absent = absent p us j it.within it.waits;
      planned = planned;
      scripts = over;
      is = inl (reason, es, cc);
    }

    by_test : (r : Admitted) (o : Option PlanTest) → scripts_over p us ≡ true → slice_get p.plan.tests (test_of r) ≡ o
        → admitted (limits_of p us) ≡ Some r
        → IsAdmitted (limits_of p us) (test_of r) (runs r) → newcomer_as p index us r o ≡ Some new
        → Newcomes p index us new
    by_test r None over planned is it e = cc
    by_test (Skipped j) (Some test) over planned is it e = skipped j test test.skip over refl planned it e
    by_test (Run j global slot) (Some test) over planned is it e = record {
      place = j;
      test = test;
      absent = absent p us j it.within it.waits;
      planned = planned;
      scripts = over;
      is = inr (
        none_there test.skip (ap (λ (c : Claim). c.matched) (claimed p j it.claim test planned it.claimed)
            ∙ it.matched),
        (global, (slot, is, cc)),
      );
    }

    by_admitted : (o : Option Admitted) → scripts_over p us ≡ true → admitted (limits_of p us) ≡ o
        → option_and_then (λ a. newcomer_as p index us a (slice_get p.plan.tests (test_of a))) o ≡ Some new
        → Newcomes p index us new
    by_admitted None over is e = cc
    by_admitted (Some r) over is e =
        by_test r (slice_get p.plan.tests (test_of r)) over refl is (admitted_is (limits_of p us) r is).0 e

    by_script : (i : ℕ) (o : Option PlanScript) → open_script (scripts_of p us) ≡ Some i
        → slice_get p.plan.scripts i ≡ o
        → script_newcomer p index i o ≡ Some new → ScriptComes p index us new
    by_script i None opens planned e = cc
    by_script i (Some script) opens planned e = record {
      place = i;
      script = script;
      absent = sym (get_or-take (scripts_in p) us i None (slice_get_within p.plan.scripts i script planned))
          ∙ open_absent (scripts_of p us) i opens;
      planned = planned;
      is = cc;
    }

    by_open : (o : Option ℕ) → open_script (scripts_of p us) ≡ o
        → option_and_then (λ i. script_newcomer p index i (slice_get p.plan.scripts i)) o ≡ Some new
        → ScriptComes p index us new
    by_open None opens e = cc
    by_open (Some i) opens e = by_script i (slice_get p.plan.scripts i) opens refl e

    by_scripts : (b : Bool) → scripts_over p us ≡ b → (if b
        then test_newcomer p index us
        else option_and_then (λ i. script_newcomer p index i (slice_get p.plan.scripts i))
        (open_script (scripts_of p us)))
        ≡ Some new → Newcomes p index us new ⊎ ScriptComes p index us new
    by_scripts true over e = inl (by_admitted (admitted (limits_of p us)) over refl e)
    by_scripts false over e = inr (by_open (open_script (scripts_of p us)) refl e)

-- the test at a place is unit k, and a script is below all of them
pub place-of_test : (p : Settings) (j : ℕ) → scripts_in p + j - scripts_in p ≡ j
place-of_test p j = omega arith

pub test_number : (p : Settings) (j : ℕ) → is_script p (unit_of_test p j) ≡ false
test_number p j = grind (arith, nat_tests)

pub script_number : (p : Settings) (i : ℕ) → i < scripts_in p → is_script p i ≡ true
script_number p i within = grind (arith, nat_tests)

-- the unit that the plan makes of this number, as it begins: a script, or a test in some slots with what its scripts
-- handed on
pub record IsPlannedScript (p : Settings) (k : ℕ) (u : UnitView) : Type 0 where
  pub script : PlanScript
  pub kind : is_script p k ≡ true
  pub planned : slice_get p.plan.scripts k ≡ Some script
  pub is : u ≡ script_view p (index_of_role u.role) k script

pub record IsPlannedTest (p : Settings) (us : List (Option UnitView)) (k : ℕ) (u : UnitView) : Type 0 where
  pub test : PlanTest
  pub slot : TestSlotAssignment
  pub kind : is_script p k ≡ false
  pub planned : slice_get p.plan.tests (k - scripts_in p) ≡ Some test
  pub is : u ≡ first_view p (index_of_role u.role) k slot (handed_to p us test) test

abbrev pub IsPlanned : Settings → List (Option UnitView) → ℕ → UnitView → Type 0
IsPlanned p us k u = IsPlannedScript p k u ⊎ IsPlannedTest p us k u

-- a unit that begins: it is one of the plan, it wasn't admitted before, and it sends its first message
pub record IsNew (p : Settings) (run : List Happening) (u : UnitView) (sent : Message) : Type 0 where
  pub below : number u < units_in p
  pub unknown : unit_of (number u) run ≡ None
  pub first : IsFirst (is_mismatched p (number u)) u sent
  pub role : is_script_role u.role ≡ is_script p (number u)
  pub start : u.timers.stopwatch.start ≡ 0
  pub latest : u.latest ≡ 0
  pub attempt : u.attempt ≡ 1
  pub delay : u.delay ≡ 0
  pub terms : u.terms ≡ unit_terms p (number u)
  pub statuses : u.statuses ≡ []
  pub env : u.env ≡ Unread
  pub line : u.line ≡ []
  pub scripts : is_script p (number u) ≡ false → scripts_over p (units p run) ≡ true
  pub planned : is_mismatched p (number u) ≡ false → IsPlanned p (units p run) (number u) u

-- a newcomer begins
new_test : (p : Settings) (index : Option StressIndex) (run : List Happening) (new : Newcomer)
    → Newcomes p index (units p run) new
    → IsNew p run new.unit new.sent
new_test p index run new found = by_case found.is
  where
    k : ℕ
    k = unit_of_test p found.place

    below : k < units_in p
    below = let place = slice_get_within p.plan.tests found.place found.test found.planned in omega arith

    unknown : unit_of k run ≡ None
    unknown =
        sym (units-at p run k below) ∙ sym (get_or-drop (scripts_in p) (units p run) found.place None) ∙ found.absent

    mismatched : is_mismatched p k ≡ is_some found.test.skip
    mismatched =
        rw (test_number p found.place, place-of_test p found.place) (ap is_skip found.planned)

    terms : terms_of p found.test ≡ unit_terms p k
    terms = sym (rw (test_number p found.place, place-of_test p found.place) (ap (terms_if p) found.planned))

    by_case : Becomes p index (units p run) found.place found.test new → IsNew p run new.unit new.sent
    by_case (inl (reason, skip, is)) =
        let mm : is_mismatched p k ≡ true = mismatched ∙ ap is_some skip in
        subst (λ (n : Newcomer). IsNew p run n.unit n.sent) (sym is) (record {
          below = below;
          unknown = unknown;
          first = rw mm (refl, (_, (refl, (reason, refl))));
          role = sym (test_number p found.place);
          start = refl;
          latest = refl;
          attempt = refl;
          delay = refl;
          terms = terms;
          statuses = refl;
          env = refl;
          line = refl;
          scripts = λ e. found.scripts;
          planned = λ e. let never : true ≡ false = sym mm ∙ e in cc;
        })
    by_case (inr (skip, (global, (slot, runs, is)))) =
        let mm : is_mismatched p k ≡ false = mismatched ∙ ap is_some skip in
        subst (λ (n : Newcomer). IsNew p run n.unit n.sent) (sym is) (record {
          below = below;
          unknown = unknown;
          first = rw mm (refl, refl);
          role = sym (test_number p found.place);
          start = refl;
          latest = refl;
          attempt = refl;
          delay = refl;
          terms = terms;
          statuses = refl;
          env = refl;
          line = refl;
          scripts = λ e. found.scripts;
          planned = λ e. inr (record {
            test = found.test;
            slot = slots_of found.test global slot;
            kind = test_number p found.place;
            planned = ap (slice_get p.plan.tests) (place-of_test p found.place) ∙ found.planned;
            is = refl;
          });
        })

new_script : (p : Settings) (index : Option StressIndex) (run : List Happening) (new : Newcomer)
    → ScriptComes p index (units p run) new
    → IsNew p run new.unit new.sent
new_script p index run new found =
    subst (λ (n : Newcomer). IsNew p run n.unit n.sent) (sym found.is) (record {
      below = below;
      unknown = sym (units-at p run found.place below) ∙ found.absent;
      first = rw mm (refl, refl);
      role = sym script;
      start = refl;
      latest = refl;
      attempt = refl;
      delay = refl;
      terms = sym (rw script (ap (script_terms_if p) found.planned));
      statuses = refl;
      env = refl;
      line = refl;
      scripts = λ e. let never : true ≡ false = sym script ∙ e in cc;
      planned = λ e. inl (record { script = found.script; kind = script; planned = found.planned; is = refl });
    })
  where
    within : found.place < scripts_in p
    within = slice_get_within p.plan.scripts found.place found.script found.planned

    below : found.place < units_in p
    below = let inside = slice_get_within p.plan.scripts found.place found.script found.planned in omega arith

    script : is_script p found.place ≡ true
    script = script_number p found.place within

    mm : is_mismatched p found.place ≡ false
    mm = rw script refl

pub new_unit : (p : Settings) (index : Option StressIndex) (run : List Happening) (new : Newcomer)
    → newcomer p index (units p run) ≡ Some new
    → IsNew p run new.unit new.sent
new_unit p index run new e = by_kind (newcomer_is p index (units p run) new e)
  where
    by_kind : Newcomes p index (units p run) new ⊎ ScriptComes p index (units p run) new → IsNew p run new.unit new.sent
    by_kind (inl test) = new_test p index run new test
    by_kind (inr script) = new_script p index run new script

-- and it is of that sub-run of a stress run
pub new_index : (p : Settings) (index : Option StressIndex) (us : List (Option UnitView)) (new : Newcomer)
    → newcomer p index us ≡ Some new → index_of_role new.unit.role ≡ index
new_index p index us new e = by_kind (newcomer_is p index us new e)
  where
    by_case : (place : ℕ) (test : PlanTest) → Becomes p index us place test new → index_of_role new.unit.role ≡ index
    by_case place test (inl (reason, skip, is)) = ap (λ (n : Newcomer). index_of_role n.unit.role) is
    by_case place test (inr (skip, (global, (slot, runs, is)))) = ap (λ (n : Newcomer). index_of_role n.unit.role) is

    by_kind : Newcomes p index us new ⊎ ScriptComes p index us new → index_of_role new.unit.role ≡ index
    by_kind (inl found) = by_case found.place found.test found.is
    by_kind (inr found) = ap (λ (n : Newcomer). index_of_role n.unit.role) found.is
