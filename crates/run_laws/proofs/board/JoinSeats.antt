-- Where the tests stand on the board, after one was admitted.
use Rattle.std.proofs.Common.{◌≡◌, ◌≢◌, ◌⊎◌, slice_get, inl, inr, ℕ, ◌<◌, ◌==◌, List, [], ◌∷◌, length, get_or, set}
use Rattle.std.proofs.Common.{map, drop, Bool, true, false, if◌then◌else◌, Option, Some, None, option_map}
use Rattle.std.proofs.Common.{option_and_then, refl, ap, sym, subst, ◌∙◌, arith, get_or-set_other, length-drop}
use Rattle.std.specs.List.{range_with_len}
use Rattle.std.proofs.Math.ListN.{length-set}
use Rattle.std.proofs.lemmas.Grind.{get_or-set_at}
use Rattle.std.proofs.lemmas.Option.{same_Some, slice_get_within, slice_get-map}
use Rattle.std.proofs.lemmas.List.{get_or-drop, get_or-map, length-map}
use Rattle.std.proofs.lemmas.List.FromFn.{fill_by_all, get_or-map-range_with_len, length-map-range_with_len}
use Rattle.run_events.specs.declared.settings.Settings.{Settings}
use Rattle.run_events.specs.declared.plan.PlanTest.{PlanTest}
use Rattle.run_events.specs.declared.message.Message.{Message}
use Rattle.run_admission.specs.declared.seat.Seat.{Seat}
use Rattle.run_admission.specs.declared.seat.Seat.TheVariants.{Waiting, InUse, Gone}
use Rattle.run_admission.specs.declared.seat.Admitted.TheVariants.{Run}
use Rattle.run_admission.specs.InUse.{is_in_use, group_of, claim_of, slot_in, tests, least_free, free_group_slot}
use Rattle.run_admission.specs.InUse.{admitted}
use Rattle.run_admission.proofs.FewerLemmas.{AreKept, IsBelow}
use Rattle.run_admission.proofs.AdmittedLemmas.{IsRun, run_is, kept_admitted}
use Rattle.run_model.specs.declared.happening.Happening.{Happening}
use Rattle.run_model.specs.declared.happening.UnitPart.TheVariants.{Joins}
use Rattle.run_model.specs.declared.phase.Phase.TheVariants.{StartSent}
use Rattle.run_model.specs.declared.unit_view.UnitRole.{UnitRole}
use Rattle.run_model.specs.declared.unit_view.UnitRole.TheVariants as roles
use Rattle.run_model.specs.declared.unit_view.UnitView.{UnitView}
use Rattle.run_model.specs.Environment.{number_of, number}
use Rattle.run_model.specs.Words.{unit_of, units}
use Rattle.run_model.specs.Admission.{seat_as, seat_of, scripts_in, tests_in, unit_of_test, limits_of, group_slot}
use Rattle.run_model.specs.Admission.{Newcomer, newcomer, first_view, skipped_view, script_view, handed_to, slots_of}
use Rattle.run_model.specs.Admission.{is_last, start_message}
use Rattle.run_laws.specs.Limits.{seat_in, limits_with}
use Rattle.run_laws.proofs.board.OnBoard.{units-length, units-at}
use Rattle.run_laws.proofs.board.OpenSeats.{opened, at_last, AreLower}
use Rattle.run_laws.proofs.units.AccountLemmas.{IsFirst}
use Rattle.run_laws.proofs.board.Newcomers.{Becomes, Newcomes, ScriptComes, newcomer_is, IsNew}
use Rattle.run_laws.proofs.board.BoardSeats.{board_seat, seat_after, AreKeptIn, kept_fewer}
use Rattle.run_laws.proofs.board.OnBoard.{index_in}
use Rattle.run_events.specs.declared.stress.StressIndex.{StressIndex}

-- the seats of the tests on the board are those of the history, one by one
seats_listed : (p : Settings) (run : List Happening)
    → map seat_of (drop (scripts_in p) (units p run))
    ≡ map (λ j. board_seat run (unit_of_test p j)) (range_with_len 0 (tests_in p))
seats_listed p run =
    fill_by_all (λ j. board_seat run (unit_of_test p j)) (map seat_of (drop (scripts_in p) (units p run))) (tests_in p)
    Gone many at
  where
    some : length (drop (scripts_in p) (units p run)) ≡ tests_in p
    some = omega (arith, length-drop (scripts_in p) (units p run), units-length p run)

    many : length (map seat_of (drop (scripts_in p) (units p run))) ≡ tests_in p
    many = length-map (drop (scripts_in p) (units p run)) seat_of ∙ some

    at : (k : ℕ) → k < tests_in p
        → get_or (map seat_of (drop (scripts_in p) (units p run))) k Gone ≡ board_seat run (unit_of_test p k)
    at k h =
        get_or-map seat_of (drop (scripts_in p) (units p run)) k None Gone (omega (arith, some, h))
        ∙ ap seat_of (get_or-drop (scripts_in p) (units p run) k None ∙ units-at p run (unit_of_test p k) (omega arith))

-- the limits on the board are those in the seats of the history
pub limits_on_board : (p : Settings) (run : List Happening) → limits_of p (units p run) ≡ limits_with p (board_seat run)
limits_on_board p run = ap (λ ss. record (limits_with p (board_seat run)) { seats = ss }) (seats_listed p run)

-- seats of which one was set, one by one
seats_set : (f g : ℕ → Seat) (n j : ℕ) (s : Seat) → j < n → g j ≡ s → ((k : ℕ) → k ≢ j → g k ≡ f k)
    → set (map f (range_with_len 0 n)) j s ≡ map g (range_with_len 0 n)
seats_set f g n j s inside here others =
    fill_by_all g (set (map f (range_with_len 0 n)) j s) n Gone
    (length-set (map f (range_with_len 0 n)) j s ∙ length-map-range_with_len f 0 n) (λ k h. at k h (k == j) refl)
  where
    many : length (map f (range_with_len 0 n)) ≡ n
    many = length-map-range_with_len f 0 n

    at : (k : ℕ) → k < n → (b : Bool) → (k == j) ≡ b → get_or (set (map f (range_with_len 0 n)) j s) k Gone ≡ g k
    at k h true e =
        let same : k ≡ j = grind arith in
        get_or-set_at (map f (range_with_len 0 n)) j k s Gone same (omega (arith, many, inside))
        ∙ sym here ∙ ap g (sym same)
    at k h false e =
        let apart : k ≢ j = grind arith in
        get_or-set_other (map f (range_with_len 0 n)) j k s Gone apart
        ∙ get_or-map-range_with_len f 0 n k k Gone h (omega arith) ∙ sym (others k apart)

-- a slot within a group is kept beside the group's name, where none is given to a test with no group
pub group_slot_is : (slot : Option ℕ) (name : Option (List ℕ)) → (name ≡ None → slot ≡ None)
    → option_map (λ g. g.slot) (group_slot slot name) ≡ slot
group_slot_is None name h = refl
group_slot_is (Some n) None h = sym (h refl)
group_slot_is (Some n) (Some name) h = refl

-- a test that runs has no slot within a group where the plan gives it none
no_group_slot : (p : Settings) (us : List (Option UnitView)) (test : PlanTest) (place global : ℕ) (slot : Option ℕ)
    → slice_get p.plan.tests place ≡ Some test → admitted (limits_of p us) ≡ Some (Run place global slot)
    → test.group ≡ None → slot ≡ None
no_group_slot p us test place global slot planned runs none = by_run (run_is (limits_of p us) place global slot runs)
  where
    by_run : IsRun (limits_of p us) place global slot → slot ≡ None
    by_run r =
        let same : claim_of p.plan.groups test ≡ r.claim = same_Some _ _ (
        ap (option_map (claim_of p.plan.groups)) (sym planned)
        ∙ sym (slice_get-map (claim_of p.plan.groups) p.plan.tests place) ∙ r.claimed) in
        r.slot_within ∙ ap (free_group_slot (limits_of p us)) (sym same)
        ∙ ap (λ o. option_map (λ g. least_free (slot_in g) (tests (limits_of p us)))
        (option_and_then (group_of p.plan.groups) o)) none

-- the admission of a test keeps the limits on the board
test_kept : (p : Settings) (now : ℕ) (index : Option StressIndex) (run : List Happening) (new : Newcomer)
    → Newcomes p index (units p run) new
    → AreKeptIn p (board_seat run) → AreKeptIn p (seat_after now (Some (Joins new.unit)) run)
test_kept p now index run new found kept = by_case found.is
  where
    k : ℕ
    k = unit_of_test p found.place

    first_in : ℕ → Option ℕ → UnitView
    first_in global slot =
        first_view p index k (slots_of found.test global slot) (handed_to p (units p run) found.test) found.test

    skips : AreLower (seat_after now (Some (Joins (skipped_view p index k found.test))) run) (board_seat run)
    skips i = by_unit (k == i)
      where
        by_unit : (b : Bool) → IsBelow (seat_of (if b then Some (skipped_view p index k found.test) else unit_of i run))
            (board_seat run i)
        by_unit true used = cc
        by_unit false used = refl

    starts : (global : ℕ) (slot : Option ℕ) → admitted (limits_of p (units p run)) ≡ Some (Run found.place global slot)
        → AreKeptIn p (seat_after now (Some (Joins (first_in global slot))) run)
    starts global slot runs =
        subst (λ ss. AreKept (record (limits_with p (board_seat run)) { seats = ss }))
        (ap (λ ss. set ss found.place (InUse global slot)) (seats_listed p run)
        ∙ seats_set (λ j. board_seat run (unit_of_test p j)) (λ j. after (unit_of_test p j)) (tests_in p) found.place
        (InUse global slot) (slice_get_within p.plan.tests found.place found.test found.planned) here others)
        (kept_admitted (limits_of p (units p run)) found.place global slot runs
        (subst AreKept (sym (limits_on_board p run)) kept))
      where
        first : UnitView
        first = first_in global slot

        after : ℕ → Seat
        after = seat_after now (Some (Joins first)) run

        itself : (k == k) ≡ true
        itself = grind arith

        here : after k ≡ InUse global slot
        here = ap (λ b. seat_of (if b then Some first else unit_of k run)) itself
            ∙ ap (InUse global) (group_slot_is slot found.test.group
            (no_group_slot p (units p run) found.test found.place global slot found.planned runs))

        others : (j : ℕ) → j ≢ found.place → after (unit_of_test p j) ≡ board_seat run (unit_of_test p j)
        others j apart =
            let other : (k == unit_of_test p j) ≡ false = grind arith in
            ap (λ b. seat_of (if b then Some first else unit_of (unit_of_test p j) run)) other

    by_case : Becomes p index (units p run) found.place found.test new
        → AreKeptIn p (seat_after now (Some (Joins new.unit)) run)
    by_case (inl (reason, skip, is)) =
        subst (λ (n : Newcomer). AreKeptIn p (seat_after now (Some (Joins n.unit)) run)) (sym is)
        (kept_fewer p (seat_after now (Some (Joins (skipped_view p index k found.test))) run)
        (board_seat run) skips kept)
    by_case (inr (skip, (global, (slot, runs, is)))) =
        subst (λ (n : Newcomer). AreKeptIn p (seat_after now (Some (Joins n.unit)) run)) (sym is)
        (starts global slot runs)

-- and so does that of a script, which holds none
script_kept : (p : Settings) (now : ℕ) (index : Option StressIndex) (run : List Happening) (new : Newcomer)
    → ScriptComes p index (units p run) new
    → AreKeptIn p (board_seat run) → AreKeptIn p (seat_after now (Some (Joins new.unit)) run)
script_kept p now index run new found kept =
    subst (λ (n : Newcomer). AreKeptIn p (seat_after now (Some (Joins n.unit)) run)) (sym found.is)
    (kept_fewer p (seat_after now (Some (Joins (script_view p index found.place found.script))) run)
    (board_seat run) lower kept)
  where
    lower : AreLower (seat_after now (Some (Joins (script_view p index found.place found.script))) run) (board_seat run)
    lower i = by_unit (found.place == i)
      where
        by_unit : (b : Bool)
            → IsBelow (seat_of (if b then Some (script_view p index found.place found.script) else unit_of i run))
            (board_seat run i)
        by_unit true used = cc
        by_unit false used = refl

-- an admission keeps the limits on the board
pub joins_kept : (p : Settings) (now : ℕ) (index : Option StressIndex) (run : List Happening) (new : Newcomer)
    → newcomer p index (units p run) ≡ Some new
    → AreKeptIn p (board_seat run) → AreKeptIn p (seat_after now (Some (Joins new.unit)) run)
joins_kept p now index run new e kept = by_kind (newcomer_is p index (units p run) new e)
  where
    by_kind : Newcomes p index (units p run) new ⊎ ScriptComes p index (units p run) new
        → AreKeptIn p (seat_after now (Some (Joins new.unit)) run)
    by_kind (inl test) = test_kept p now index run new test kept
    by_kind (inr script) = script_kept p now index run new script kept

-- an admission leaves the last seats below the board's: a start opens its seat
pub joins_last : (p : Settings) (now : ℕ) (run : List Happening) (first : UnitView) (sent : Message) (seat : ℕ → Seat)
    → IsNew p run first sent → AreLower seat (board_seat run)
    → AreLower (at_last seat (sent ∷ [])) (seat_after now (Some (Joins first)) run)
joins_last p now run first sent seat new below = by_kind _ first sent new.first new.unknown
  where
    idle : (s t : Seat) → IsBelow s Waiting → IsBelow s t
    idle s t h used = let bad : true ≡ false = sym used ∙ ap is_in_use (h used) in cc

    -- no seat of a unit that isn't one yet is in use
    unseated : (u : UnitView) (k : ℕ) → unit_of (number u) run ≡ None → (number u == k) ≡ true
        → IsBelow (seat k) (seat_of (Some u))
    unseated u k unknown e =
        let here : (number u) ≡ k = grind arith in
        idle (seat k) (seat_of (Some u))
        (subst (λ v. IsBelow (seat k) (seat_of v)) (ap (λ k. unit_of k run) (sym here) ∙ unknown) (below k))

    still : (u : UnitView) (k : ℕ) → unit_of (number u) run ≡ None
        → IsBelow (seat k) (seat_of (if number u == k then Some u else unit_of k run))
    still u k unknown = by_unit (number u == k) refl
      where
        by_unit : (b : Bool) → (number u == k) ≡ b → IsBelow (seat k) (seat_of (if b then Some u else unit_of k run))
        by_unit true e = unseated u k unknown e
        by_unit false e = below k

    starts : (u : UnitView) (role : UnitRole) (k : ℕ) → u.role ≡ role → u.phase ≡ StartSent
        → unit_of (number u) run ≡ None
        → IsBelow (opened (start_message role u) seat k) (seat_of (if number u == k then Some u else unit_of k run))
    starts u (roles.Script s) k is ph unknown = still u k unknown
    starts u (roles.Test t) k is ph unknown =
        subst (λ n. IsBelow (if t.test.unit == k then seat_in (Some t.slot) else seat k)
        (seat_of (if n == k then Some u else unit_of k run))) (sym (ap number_of is)) (by_unit (t.test.unit == k))
      where
        by_unit : (b : Bool) → IsBelow (if b then seat_in (Some t.slot) else seat k)
            (seat_of (if b then Some u else unit_of k run))
        by_unit true used = sym (ap (λ ph. if is_last ph then Gone else seat_as u.role) ph ∙ ap seat_as is)
        by_unit false used = below k used

    by_kind : (mm : Bool) (u : UnitView) (m : Message) → IsFirst mm u m → unit_of (number u) run ≡ None
        → AreLower (at_last seat (m ∷ [])) (seat_after now (Some (Joins u)) run)
    by_kind true u m (ph, (t, (role, (reason, is)))) unknown k =
        subst (λ m. IsBelow (opened m seat k) (seat_after now (Some (Joins u)) run k)) (sym is) (still u k unknown)
    by_kind false u m (ph, is) unknown k =
        subst (λ m. IsBelow (opened m seat k) (seat_after now (Some (Joins u)) run k)) (sym is)
        (starts u u.role k refl ph unknown)
