-- A run that is on and idle admits what wasn't admitted.
use Rattle.std.proofs.Common.{◌≡◌, ◌⊎◌, inl, inr, ℕ, zero, suc, ◌+◌, ◌-◌, ◌<◌, ◌≤◌, ◌&&◌, ◌||◌, List, [], ◌∷◌, length}
use Rattle.std.proofs.Common.{take, drop, get_or, map, Bool, true, false, not, if◌then◌else◌, nat_lt, Option, Some}
use Rattle.std.proofs.Common.{None, is_some, option_map, option_and_then, slice_get, refl, ap, sym, ◌∙◌, arith}
use Rattle.std.specs.List.{list_all}
use Rattle.std.proofs.lemmas.Bool.Decides.{nat_tests}
use Rattle.std.proofs.lemmas.List.{get_or-drop, get_or-map, get_or-take, get_or_past, length-drop, length-take}
use Rattle.run_events.specs.declared.settings.Settings.{Settings}
use Rattle.run_events.specs.declared.plan.PlanScript.{PlanScript}
use Rattle.run_events.specs.declared.turn.Turn.TheVariants.{Admit}
use Rattle.run_admission.specs.declared.seat.Seat.TheVariants.{Waiting, Gone}
use Rattle.run_admission.specs.InUse.{is_in_use}
use Rattle.run_model.specs.declared.entry.Entry.{Entry}
use Rattle.run_model.specs.declared.happening.Happening.{Happening}
use Rattle.run_model.specs.declared.unit_view.UnitView.{UnitView}
use Rattle.run_model.specs.Admission.{Newcomer, is_done, is_last, seat_as, seat_of, newcomer, open_script}
use Rattle.run_model.specs.Admission.{script_newcomer, scripts_in, scripts_of, scripts_over, test_newcomer, units_in}
use Rattle.run_model.specs.Journal.{history, IsLegalBackward}
use Rattle.run_model.specs.Board.{board}
use Rattle.run_model.specs.Turns.{enabled, happening, takes_turn, turn_of_unit}
use Rattle.run_model.specs.Words.{is_on, is_over, sub_run, unit_of, units}
use Rattle.run_laws.proofs.board.Kept.{HoldsAfter, does_after, IsOfRun, IsBeforeRuns, where_joins, holds}
use Rattle.run_laws.proofs.board.OnBoard.{units-at, units-length}
use Rattle.run_laws.proofs.board.Ordered.{board_over}
use Rattle.run_laws_events.specs.Idle.{IsIdle}
use Rattle.run_laws_events.proofs.IdleLemmas.{AreIdle, admits_first, get_within}
use Rattle.run_laws.proofs.board.OnBoard.{index_in}
use Rattle.run_events.specs.declared.stress.StressIndex.{StressIndex}
use Rattle.run_laws.proofs.board.OnBoard.{frame_of}

-- each unit of a list that was admitted is over
AreOver : List (Option UnitView) → Type 0
AreOver us = (j : ℕ) (u : UnitView) → get_or us j None ≡ Some u → is_last u.phase ≡ true

-- so none is in use
over_idle : (us : List (Option UnitView)) → AreOver us → AreIdle (map seat_of us)
unfolding AreOver
over_idle [] over j = refl
over_idle (None ∷ us) over zero = refl
over_idle (Some u ∷ us) over zero = ap (λ b. is_in_use (if b then Gone else seat_as u.role)) (over 0 u refl)
over_idle (v ∷ us) over (suc j) = over_idle us (λ j u is. over (suc j) u is) j

-- and of scripts that aren't all over the first that wasn't admitted is the next
record IsOpen (us : List (Option UnitView)) : Type 0 where
  place : ℕ
  is : open_script us ≡ Some place
  within : place < length us

next_open : (us : List (Option UnitView)) → AreOver us → list_all is_done us ≡ false → IsOpen us
unfolding AreOver
next_open [] over some = cc
next_open (None ∷ us) over some = record { place = 0; is = refl; within = omega arith }
next_open (Some u ∷ us) over some =
    let last : is_last u.phase ≡ true = over 0 u refl in
    let rest = next_open us (λ j u is. over (suc j) u is) (sym (ap (λ b. b && list_all is_done us) last) ∙ some) in
    record {
      place = rest.place + 1;
      is = ap (λ b. if b then option_map (λ i. i + 1) (open_script us) else None) last
          ∙ ap (option_map (λ i. i + 1)) rest.is;
      within = omega (arith, rest.within);
    }

-- the units of an idle sub-run are over
units_over : (p : Settings) (run : List Happening) → IsIdle run → AreOver (units p run)
unfolding AreOver
units_over p run idle j u is = by_part (nat_lt j (units_in p)) refl
  where
    by_part : (b : Bool) → nat_lt j (units_in p) ≡ b → is_last u.phase ≡ true
    by_part true e =
        let below : j < units_in p = grind (arith, nat_tests, e) in
        ap is_last (idle j u (sym (units-at p run j below) ∙ is))
    by_part false e =
        let above : units_in p ≤ j = grind (arith, nat_tests, e) in
        let never : None ≡ Some u =
        sym (get_or_past (units p run) j None (omega (arith, units-length p run))) ∙ is in cc

take_over : (n : ℕ) (us : List (Option UnitView)) → AreOver us → AreOver (take n us)
unfolding AreOver
take_over n us over j u is = by_part (nat_lt j n) refl
  where
    by_part : (b : Bool) → nat_lt j n ≡ b → is_last u.phase ≡ true
    by_part true e =
        let below : j < n = grind (arith, nat_tests, e) in over j u (sym (get_or-take n us j None below) ∙ is)
    by_part false e =
        let above : n ≤ j = grind (arith, nat_tests, e) in
        let never : None ≡ Some u =
        sym (get_or_past (take n us) j None (omega (arith, length-take n us))) ∙ is in cc

drop_over : (n : ℕ) (us : List (Option UnitView)) → AreOver us → AreOver (drop n us)
unfolding AreOver
drop_over n us over j u is = over (n + j) u (sym (get_or-drop n us j None) ∙ is)

-- so there is a newcomer: the next script
next_script : (p : Settings) (index : Option StressIndex) (us : List (Option UnitView)) → AreOver us
    → scripts_over p us ≡ false
    → is_some (newcomer p index us) ≡ true
next_script p index us over some =
    ap (λ b. is_some (if b then test_newcomer p index us else option_and_then becomes
    (open_script (scripts_of p us)))) some
    ∙ ap (λ o. is_some (option_and_then becomes o)) opens.is
    ∙ ap (λ o. is_some (script_newcomer p index opens.place o)) found.1
  where
    becomes : ℕ → Option Newcomer
    becomes i = script_newcomer p index i (slice_get p.plan.scripts i)

    opens : IsOpen (scripts_of p us)
    opens = next_open (scripts_of p us) (take_over (scripts_in p) us over) some

    found : (script : PlanScript) × (slice_get p.plan.scripts opens.place ≡ Some script)
    found = get_within p.plan.scripts opens.place (omega (arith, opens.within, length-take (scripts_in p) us))

-- or, where all scripts are over, the first test that waits
next_test : (p : Settings) (index : Option StressIndex) (run : List Happening) (k : ℕ) → AreOver (units p run)
    → scripts_over p (units p run) ≡ true
    → k < units_in p → unit_of k run ≡ None → is_some (newcomer p index (units p run)) ≡ true
next_test p index run k over all below none =
    ap (λ b. is_some (if b then test_newcomer p index us else option_and_then becomes
    (open_script (scripts_of p us)))) all
    ∙ admits_first p index us j (over_idle (drop (scripts_in p) us) (drop_over (scripts_in p) us over))
    (omega (arith, above)) waits
  where
    us : List (Option UnitView)
    us = units p run

    becomes : ℕ → Option Newcomer
    becomes i = script_newcomer p index i (slice_get p.plan.scripts i)

    above : scripts_in p ≤ k
    above = by_part (nat_lt k (scripts_in p)) refl
      where
        by_part : (b : Bool) → nat_lt k (scripts_in p) ≡ b → scripts_in p ≤ k
        by_part false e = grind (arith, nat_tests, e)
        by_part true e =
            let within : k < scripts_in p = grind (arith, nat_tests, e) in
            let never : false ≡ true = sym (ap is_done none) ∙ board_over p run all k within in cc

    j : ℕ
    j = k - scripts_in p

    waits : get_or (map seat_of (drop (scripts_in p) us)) j Gone ≡ Waiting
    waits =
        let at : scripts_in p + j ≡ k = omega (arith, above) in
        get_or-map seat_of (drop (scripts_in p) us) j None Gone
        (omega (arith, above, length-drop (scripts_in p) us, units-length p run))
        ∙ ap seat_of (get_or-drop (scripts_in p) us j None ∙ ap (λ k. get_or us k None) at
        ∙ units-at p run k below ∙ none)

-- a sub-run that is on is not over
pub on_going : (p : Settings) (backward : List Entry) → IsLegalBackward p backward
    → is_on (sub_run (history p backward)) ≡ true → is_over (history p backward) ≡ false
on_going p [] legal on = refl
on_going p (e ∷ before) legal on = by_run (where_joins p past e h legal.0)
  where
    past : List Happening
    past = history p before

    x : Happening
    x = happening p past e

    h : HoldsAfter p past
    h = holds p before legal.2

    not_over : (b c : Bool) → (not b && c) ≡ true → b ≡ false
    not_over true c e = cc
    not_over false c e = refl

    going : is_over past ≡ false
    going = not_over (is_over past) (takes_turn p (board p past) e.turn (turn_of_unit e.turn)) legal.0

    by_run : IsOfRun p past e ⊎ IsBeforeRuns p past e → (x.over || is_over past) ≡ false
    by_run (inl of) =
        let ends : x.ends ≡ false =
        not_over x.ends (x.begins || is_on of.base) (sym (ap is_on of.joins) ∙ on) in
        ap (λ b. b || is_over past) (not_so x.over refl ends) ∙ going
      where
        not_so : (over : Bool) → x.over ≡ over → x.ends ≡ false → over ≡ false
        not_so false is ends = refl
        not_so true is ends = let never : false ≡ true = sym ends ∙ of.does.marks.finishes is in cc
    by_run (inr idle) = let never : false ≡ true = sym (ap is_on idle.still) ∙ on in cc

pub idle_admits : (p : Settings) (backward : List Entry) (k : ℕ) → IsLegalBackward p backward
    → is_on (sub_run (history p backward)) ≡ true → IsIdle (sub_run (history p backward)) → k < units_in p
    → unit_of k (sub_run (history p backward)) ≡ None → enabled p (history p backward) Admit ≡ true
idle_admits p backward k legal on idle below none =
    ap (λ b. not b && (is_on run && is_some (newcomer p index us))) (on_going p backward legal on)
    ∙ ap (λ b. b && is_some (newcomer p index us)) on ∙ by_scripts (scripts_over p us) refl
  where
    run : List Happening
    run = sub_run (history p backward)

    us : List (Option UnitView)
    us = units p run

    index : Option StressIndex
    index = index_in p (frame_of p (history p backward))

    over : AreOver us
    over = units_over p run idle

    by_scripts : (b : Bool) → scripts_over p us ≡ b → is_some (newcomer p index us) ≡ true
    by_scripts false some = next_script p index us over some
    by_scripts true all = next_test p index run k over all below none
