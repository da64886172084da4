-- What the tests hold of the limits, as the units change.
use Rattle.std.proofs.Common.{◌≡◌, ◌⊎◌, inl, inr, ℕ, ◌+◌, ◌-◌, ◌<◌, ◌≤◌, nat_le, List, length, get_or, set, map, drop}
use Rattle.std.proofs.Common.{Bool, true, false}
use Rattle.std.proofs.Common.{if◌then◌else◌, Option, Some, None, option_map, option_and_then, slice_get, is_none}
use Rattle.std.proofs.Common.{is_some, refl, ap, sym}
use Rattle.std.proofs.Common.{subst, ◌∙◌, arith}
use Rattle.std.proofs.lemmas.Option.{same_Some, slice_get-map, slice_get_cases, slice_get_within}
use Rattle.std.proofs.lemmas.List.{drop-set-lt, drop-set-add, map-set, get_or-drop, get_or-map, length-drop}
use Rattle.std.proofs.Math.Seq.{map-set_same}
use Rattle.run_events.specs.declared.settings.Settings.{Settings}
use Rattle.run_events.specs.declared.stress.StressIndex.{StressIndex}
use Rattle.run_admission.specs.declared.seat.Seat.TheVariants.{InUse, Gone}
use Rattle.run_events.specs.declared.plan.PlanScript.{PlanScript}
use Rattle.run_events.specs.declared.plan.PlanTest.{PlanTest}
use Rattle.run_admission.specs.declared.seat.Admitted.{Admitted}
use Rattle.run_admission.specs.declared.seat.Admitted.TheVariants.{Skip as Skipped, Run}
use Rattle.run_admission.specs.declared.seat.Seat.{Seat}
use Rattle.run_admission.specs.InUse.{is_in_use, is_test_in_use, admitted, seats_after, after_admission}
use Rattle.run_admission.specs.InUse.{claim_of, group_of, free_group_slot}
use Rattle.run_model.specs.declared.unit_turn.UnitTurn.{UnitTurn}
use Rattle.run_model.specs.declared.unit_view.UnitRole.{UnitRole}
use Rattle.run_model.specs.declared.unit_view.UnitRole.TheVariants as roles
use Rattle.run_model.specs.declared.unit_view.UnitView.{UnitView}
use Rattle.run_model.specs.declared.happening.UnitPart.TheVariants.{Acts}
use Rattle.run_model.specs.Unit.{at_moment, row}
use Rattle.run_model.specs.Admission.{is_last, scripts_in, seat_as, seat_of, limits_of, newcomer_as, test_of, Newcomer}
use Rattle.run_model.specs.Admission.{newcomer_skipped, skipped_newcomer, started_newcomer, skipped_view, first_view}
use Rattle.run_model.specs.Admission.{slots_of, group_slot, handed_to, unit_of_test, newcomer, open_script, scripts_of}
use Rattle.run_model.specs.Admission.{scripts_over, script_newcomer, script_view}
use Rattle.run_model.specs.Environment.{number}
use Rattle.run_model.specs.Board.{units_after}
use Rattle.run_model.specs.Turns.{taken_deed}
use Rattle.run_laws.proofs.board.Newcomers.{becomes}
use Rattle.run_laws.proofs.units.Rows.{row_keeps}
use Rattle.run_laws.proofs.board.BoardSeats.{seat_going}
use Rattle.run_laws.proofs.board.Admitted.{HasFreeSlots, admitted_is}
use Rattle.run_state.specs.Held.{given_back, units_with}
use Rattle.run_state.specs.Placed.{is_test}
use Rattle.run_state.proofs.ScriptLemmas.{open_first}
use Rattle.run_laws.proofs.board.JoinSeats.{group_slot_is}

-- the units after one took a turn
pub acted : (now k : ℕ) (turn : UnitTurn) (us : List (Option UnitView)) (u : UnitView) → get_or us k None ≡ Some u
    → units_after now (taken_deed now k turn (get_or us k None)).part us ≡ set us k (Some (row now turn u).next)
acted now k turn us u at =
    ap (λ v. units_after now (option_map (λ w. Acts k turn) v) us) at
    ∙ ap (λ v. set us k (option_map (λ w. (row now turn w).next) v)) at

-- a unit that is over holds no slots
pub seat_over : (u : UnitView) → is_last u.phase ≡ true → seat_of (Some u) ≡ Gone
seat_over u e = ap (λ b. if b then Gone else seat_as u.role) e

-- the seats after a unit was set: that of a test is another, and a script has none
pub seats-set : (p : Settings) (us : List (Option UnitView)) (j : ℕ) (v : Option UnitView)
    → map seat_of (drop (scripts_in p) (set us (scripts_in p + j) v))
    ≡ set (map seat_of (drop (scripts_in p) us)) j (seat_of v)
seats-set p us j v =
    ap (map seat_of) (drop-set-add (scripts_in p) us j v) ∙ map-set seat_of (drop (scripts_in p) us) j v

seats-script : (p : Settings) (us : List (Option UnitView)) (k : ℕ) (v : Option UnitView) → k < scripts_in p
    → map seat_of (drop (scripts_in p) (set us k v)) ≡ map seat_of (drop (scripts_in p) us)
seats-script p us k v lt = ap (map seat_of) (drop-set-lt (scripts_in p) us k v lt)

-- the seats after a unit that isn't over took a turn after which it isn't
pub seats-going : (p : Settings) (us : List (Option UnitView)) (k : ℕ) (u v : UnitView) → get_or us k None ≡ Some u
    → seat_of (Some v) ≡ seat_of (Some u)
    → map seat_of (drop (scripts_in p) (set us k (Some v))) ≡ map seat_of (drop (scripts_in p) us)
seats-going p us k u v at same = by_kind (nat_le (scripts_in p) k) refl
  where
    by_kind : (b : Bool) → nat_le (scripts_in p) k ≡ b
        → map seat_of (drop (scripts_in p) (set us k (Some v))) ≡ map seat_of (drop (scripts_in p) us)
    by_kind false e = seats-script p us k (Some v) (grind (arith, e))
    by_kind true e =
        let le : scripts_in p ≤ k = grind (arith, e) in
        let j : ℕ = k - scripts_in p in
        let here : k ≡ scripts_in p + j = omega arith in
        ap (λ i. map seat_of (drop (scripts_in p) (set us i (Some v)))) here
        ∙ ap (map seat_of) (drop-set-add (scripts_in p) us j (Some v))
        ∙ map-set_same seat_of (drop (scripts_in p) us) j (Some v) None
        (same ∙ sym (ap seat_of (get_or-drop (scripts_in p) us j None ∙ sym (ap (λ i. get_or us i None) here) ∙ at)))

-- what is held of the limits after a unit took a turn
pub limits-acted : (p : Settings) (us : List (Option UnitView)) (k now : ℕ) (turn : UnitTurn) (u : UnitView)
    (over : Bool)
    → get_or us k None ≡ Some u → is_last u.phase ≡ false → is_last (row now turn u).next.phase ≡ over
    → limits_of p (set us k (Some (row now turn u).next))
    ≡ (if over then given_back p (limits_of p us) k else limits_of p us)
limits-acted p us k now turn u false at going ends =
    ap (λ seats. record (limits_of p us) { seats = seats }) (seats-going p us k u (row now turn u).next at
    (seat_going (row now turn u).next ends
    ∙ ap seat_as (row_keeps now u.phase turn (at_moment now u) refl).role ∙ sym (seat_going u going)))
limits-acted p us k now turn u true at going ends = by_kind (nat_le (scripts_in p) k) refl
  where
    v : UnitView
    v = (row now turn u).next

    by_kind : (b : Bool) → nat_le (scripts_in p) k ≡ b
        → limits_of p (set us k (Some (row now turn u).next)) ≡ given_back p (limits_of p us) k
    by_kind false e =
        rw e (ap (λ seats. record (limits_of p us) { seats = seats })
        (seats-script p us k (Some (row now turn u).next) (grind (arith, e))))
    by_kind true e =
        let le : scripts_in p ≤ k = grind (arith, e) in
        let j : ℕ = k - scripts_in p in
        let here : k ≡ scripts_in p + j = omega arith in
        rw e (ap (λ seats. record (limits_of p us) { seats = seats })
        (ap (λ i. map seat_of (drop (scripts_in p) (set us i (Some (row now turn u).next)))) here
        ∙ seats-set p us j (Some (row now turn u).next)
        ∙ ap (set (map seat_of (drop (scripts_in p) us)) j) (seat_over (row now turn u).next ends)))

-- a test that isn't over is in use
pub test_in_use : (p : Settings) (us : List (Option UnitView)) (k : ℕ) (u : UnitView) → get_or us k None ≡ Some u
    → is_last u.phase ≡ false → is_test u.role ≡ true → k < length us → scripts_in p ≤ k
    → is_test_in_use (limits_of p us) (k - scripts_in p) ≡ true
test_in_use p us k u at going role inside le =
    let j : ℕ = k - scripts_in p in
    let here : scripts_in p + j ≡ k = omega arith in
    let within : j < length (drop (scripts_in p) us) = omega (arith, length-drop (scripts_in p) us) in
    ap is_in_use (get_or-map seat_of (drop (scripts_in p) us) j None Gone within
    ∙ ap seat_of (get_or-drop (scripts_in p) us j None ∙ ap (λ i. get_or us i None) here ∙ at)
    ∙ seat_going u going)
    ∙ uses u.role role
  where
    uses : (role : UnitRole) → is_test role ≡ true → is_in_use (seat_as role) ≡ true
    uses (roles.Test t) e = refl
    uses (roles.Script s) e = cc

-- only a test of a group gets a slot within one
no_slot : (p : Settings) (us : List (Option UnitView)) (j : ℕ) (test : PlanTest) (slot : Option ℕ)
    → slice_get p.plan.tests j ≡ Some test
    → slot ≡ option_and_then (free_group_slot (limits_of p us)) (slice_get (limits_of p us).claims j)
    → test.group ≡ None → slot ≡ None
no_slot p us j test slot planned is none =
    is ∙ ap (option_and_then (free_group_slot (limits_of p us)))
    (slice_get-map (claim_of p.plan.groups) p.plan.tests j ∙ ap (option_map (claim_of p.plan.groups)) planned)
    ∙ ap (λ g. free_group_slot (limits_of p us)
    (record {
      matched = is_none test.skip;
      weight = test.weight;
      priority = test.priority;
      group = option_and_then (group_of p.plan.groups) g;
    }))
    none

-- what is held of the limits after a test was admitted
pub limits-seated : (p : Settings) (index : Option StressIndex) (us : List (Option UnitView)) (r : Admitted)
    (new : Newcomer)
    → admitted (limits_of p us) ≡ Some r → newcomer_as p index us r (slice_get p.plan.tests (test_of r)) ≡ Some new
    → after_admission (limits_of p us) ≡ limits_of p (units_with p us (Some new))
limits-seated p index us r new e made =
    ap (λ o. record (limits_of p us) { seats = seats_after (map seat_of (drop (scripts_in p) us)) o }) e
    ∙ by_test (slice_get p.plan.tests (test_of r)) r refl (admitted_is (limits_of p us) r e).1 made
  where
    at : (j : ℕ) (u : UnitView) (seat : Seat) → seat_of (Some u) ≡ seat
        → record (limits_of p us) { seats = set (map seat_of (drop (scripts_in p) us)) j seat }
        ≡ limits_of p (set us (unit_of_test p j) (Some u))
    at j u seat is =
        ap (λ seats. record (limits_of p us) { seats = seats })
        (ap (set (map seat_of (drop (scripts_in p) us)) j) (sym is) ∙ sym (seats-set p us j (Some u)))

    skipped : (j : ℕ) (test : PlanTest) (skip : Option (List ℕ)) → newcomer_skipped p index j test skip ≡ Some new
        → record (limits_of p us) { seats = set (map seat_of (drop (scripts_in p) us)) j Gone }
        ≡ limits_of p (set us (number new.unit) (Some new.unit))
    skipped j test None e = cc
    skipped j test (Some reason) e =
        let it : skipped_newcomer p index (unit_of_test p j) test reason ≡ new = same_Some _ _ e in
        subst (λ (n : Newcomer). record (limits_of p us) { seats = set (map seat_of (drop (scripts_in p) us)) j Gone }
        ≡ limits_of p (set us (number n.unit) (Some n.unit))) it
        (at j (skipped_view p index (unit_of_test p j) test) Gone refl)

    by_test : (o : Option PlanTest) (r : Admitted) → slice_get p.plan.tests (test_of r) ≡ o
        → HasFreeSlots (limits_of p us) r → newcomer_as p index us r o ≡ Some new
        → record (limits_of p us) { seats = seats_after (map seat_of (drop (scripts_in p) us)) (Some r) }
        ≡ limits_of p (set us (number new.unit) (Some new.unit))
    by_test None r planned free made = cc
    by_test (Some test) (Skipped j) planned free made = skipped j test test.skip made
    by_test (Some test) (Run j global slot) planned free made =
        let u : UnitView =
        first_view p index (unit_of_test p j) (slots_of test global slot) (handed_to p us test) test in
        let it : started_newcomer u ≡ new = same_Some _ _ made in
        subst (λ (n : Newcomer).
        record (limits_of p us) { seats = set (map seat_of (drop (scripts_in p) us)) j (InUse global slot) }
        ≡ limits_of p (set us (number n.unit) (Some n.unit))) it
        (at j u (InUse global slot)
        (ap (InUse global) (group_slot_is slot test.group (no_slot p us j test slot planned free.1))))

-- the newcomer where all scripts are over
newcomer-test : (p : Settings) (index : Option StressIndex) (us : List (Option UnitView)) (r : Admitted)
    → scripts_over p us ≡ true
    → admitted (limits_of p us) ≡ Some r → newcomer p index us
    ≡ newcomer_as p index us r (slice_get p.plan.tests (test_of r))
newcomer-test p index us r over e =
    rw over (ap (option_and_then (λ a. newcomer_as p index us a (slice_get p.plan.tests (test_of a)))) e)

-- what is held of the limits after it
pub limits-after : (p : Settings) (index : Option StressIndex) (us : List (Option UnitView)) (r : Admitted)
    → scripts_over p us ≡ true
    → admitted (limits_of p us) ≡ Some r
    → after_admission (limits_of p us) ≡ limits_of p (units_with p us (newcomer p index us))
limits-after p index us r over e =
    subst (λ o. after_admission (limits_of p us) ≡ limits_of p (units_with p us o))
    (sym (newcomer-test p index us r over e))
    (by_new (newcomer_as p index us r (slice_get p.plan.tests (test_of r))) refl (becomes p index us r e))
  where
    by_new : (o : Option Newcomer) → newcomer_as p index us r (slice_get p.plan.tests (test_of r)) ≡ o
        → is_some o ≡ true
        → after_admission (limits_of p us) ≡ limits_of p (units_with p us o)
    by_new None made h = cc
    by_new (Some new) made h = limits-seated p index us r new e made

-- a script of the plan stands at each of their places
some_planned : (xs : List PlanScript) (i : ℕ) → i < length xs → slice_get xs i ≡ None → ⊥
some_planned xs i within none = by_case (slice_get_cases xs i).1
  where
    by_case : ((x : PlanScript) × (i < length xs) × (slice_get xs i ≡ Some x) × (get_or xs i x ≡ x))
        ⊎ ((length xs ≤ i) × (slice_get xs i ≡ None)) → ⊥
    by_case (inl found) = let never = sym none ∙ found.2 in cc
    by_case (inr past) = let le = past.0 in omega (arith, le, within)

-- the newcomer where not all scripts are over
newcomer-script : (p : Settings) (index : Option StressIndex) (us : List (Option UnitView)) (i : ℕ)
    → scripts_over p us ≡ false
    → open_script (scripts_of p us) ≡ Some i → newcomer p index us
    ≡ script_newcomer p index i (slice_get p.plan.scripts i)
newcomer-script p index us i before e =
    rw before (ap (option_and_then (λ i. script_newcomer p index i (slice_get p.plan.scripts i))) e)

-- there is one where a script is the next
pub opens : (p : Settings) (index : Option StressIndex) (us : List (Option UnitView)) → scripts_over p us ≡ false
    → is_some (open_script (scripts_of p us)) ≡ is_some (newcomer p index us)
opens p index us before = by_open (open_script (scripts_of p us)) refl
  where
    of_script : (i : ℕ) (o : Option PlanScript) → slice_get p.plan.scripts i ≡ o → i < scripts_in p
        → true ≡ is_some (script_newcomer p index i o)
    of_script i None planned within =
        absurd (some_planned p.plan.scripts i within planned)
    of_script i (Some script) planned within = refl

    by_open : (o : Option ℕ) → open_script (scripts_of p us) ≡ o → is_some o ≡ is_some (newcomer p index us)
    by_open None e =
        rw before
        (ap (λ o. is_some (option_and_then (λ i. script_newcomer p index i (slice_get p.plan.scripts i)) o)) (sym e))
    by_open (Some i) e =
        of_script i (slice_get p.plan.scripts i) refl (open_first (scripts_in p) us i e).0
        ∙ sym (ap is_some (newcomer-script p index us i before e))

-- a script leaves what is held of the limits
pub limits-script : (p : Settings) (index : Option StressIndex) (us : List (Option UnitView)) (i : ℕ)
    → scripts_over p us ≡ false
    → open_script (scripts_of p us) ≡ Some i → limits_of p us ≡ limits_of p (units_with p us (newcomer p index us))
limits-script p index us i before e =
    subst (λ o. limits_of p us ≡ limits_of p (units_with p us o)) (sym (newcomer-script p index us i before e))
    (by_script (slice_get p.plan.scripts i) refl)
  where
    by_script : (o : Option PlanScript) → slice_get p.plan.scripts i ≡ o
        → limits_of p us ≡ limits_of p (units_with p us (script_newcomer p index i o))
    by_script None planned = refl
    by_script (Some script) planned =
        ap (λ seats. record (limits_of p us) { seats = seats })
        (sym (seats-script p us i (Some (script_view p index i script))
        (slice_get_within p.plan.scripts i script planned)))
