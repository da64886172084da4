-- Each unit joins in the slots of the rule.
use Rattle.std.proofs.Common.{◌≡◌, ◌⊎◌, inl, inr, ℕ, List, [], ◌∷◌, ◌++◌, Bool, true, false, if◌then◌else◌, Option}
use Rattle.std.proofs.Common.{Some, None, reverse, option_map, slice_get, refl, ap, sym, subst, ◌∙◌}
use Rattle.std.specs.List.{range_with_len}
use Rattle.std.proofs.lemmas.List.{reverse-append}
use Rattle.std.proofs.lemmas.Option.{same_Some, slice_get-map}
use Rattle.run_events.specs.declared.plan.PlanTest.{PlanTest}
use Rattle.run_events.specs.declared.request.Request.{Request}
use Rattle.run_events.specs.declared.settings.Settings.{Settings}
use Rattle.run_admission.specs.declared.seat.Seat.TheVariants.{Gone}
use Rattle.run_admission.specs.declared.seat.Admitted.TheVariants.{Run}
use Rattle.run_admission.specs.InUse.{admitted, claim_of, free_group_slot, free_slot}
use Rattle.run_admission.proofs.AdmittedLemmas.{IsRun, run_is}
use Rattle.run_admission.proofs.FewerLemmas.{kept_gone}
use Rattle.run_model.specs.declared.entry.Entry.{Entry}
use Rattle.run_model.specs.declared.happening.Happening.{Happening}
use Rattle.run_model.specs.declared.happening.UnitPart.TheVariants.{Joins}
use Rattle.run_model.specs.declared.unit_view.UnitView.{UnitView}
use Rattle.run_model.specs.Admission.{Newcomer, first_view, handed_to, limits_of, newcomer, seat_of, slots_of, tests_in}
use Rattle.run_model.specs.Admission.{unit_of_test}
use Rattle.run_model.specs.Board.{Deed, board, said}
use Rattle.run_model.specs.Environment.{number}
use Rattle.run_model.specs.Journal.{IsLegal, IsLegalBackward, history, past_of}
use Rattle.run_model.specs.Turns.{deed_on, enabled, enabled_on, happening}
use Rattle.run_model.specs.Unit.{is_live, reach}
use Rattle.run_model.specs.Words.{clock, is_over, sub_run, unit_after, unit_of, units, was_refused}
use Rattle.run_laws.specs.Limits.{limits_with}
use Rattle.run_laws.proofs.board.BoardSeats.{AreKeptIn, board_seat, kept_fewer, seat_after}
use Rattle.run_laws.proofs.board.DeedFits.{PartFits}
use Rattle.run_laws.proofs.board.JoinSeats.{limits_on_board}
use Rattle.run_laws.proofs.board.Kept.{HoldsAfter, does_after, holds}
use Rattle.run_laws.proofs.board.Newcomers.{Becomes, Newcomes, ScriptComes, newcomer_is}
use Rattle.run_laws.proofs.board.OnBoard.{board_with}
use Rattle.run_laws.proofs.board.OpenSeats.{same_lower}
use Rattle.run_laws.proofs.board.SeatMoves.{moves}
use Rattle.run_laws_events.specs.Slots.{JoinsInSlots}
use Rattle.run_laws_events.proofs.ByJournal.{IsKept, by_journal}
use Rattle.run_laws_events.proofs.Joined.{joins_new}
use Rattle.run_laws_events.proofs.LeastSlots.{are_least}
use Rattle.run_laws_events.proofs.PlanMessages.{plan_units}
use Rattle.run_laws_events.proofs.PlanUnits.{ArePlanUnits, test_there}
use Rattle.run_laws.proofs.board.OnBoard.{index_in}
use Rattle.run_laws.proofs.board.OnBoard.{frame_of}
use Rattle.run_events.specs.declared.stress.StressIndex.{StressIndex}
use Rattle.run_laws.proofs.board.Deeds.{base_of}
use Rattle.run_laws.proofs.board.DeedFits.{Does}

-- the tests on the board keep their limits, and hold slots of their own
seat_reached : (request : Option Request) (v : Option UnitView) → seat_of (reach request v) ≡ seat_of v
seat_reached None v = refl
seat_reached (Some request) None = refl
seat_reached (Some request) (Some u) = by_live (is_live u.phase)
  where
    by_live : (b : Bool) → seat_of (Some (if b then record u { line = u.line ++ request ∷ [] } else u))
        ≡ seat_of (Some u)
    by_live true = refl
    by_live false = refl

board_kept : (p : Settings) → IsKept p (λ run. AreKeptIn p (board_seat run))
board_kept p f refused now run e h en does was =
    kept_fewer p (board_seat (said now e d ∷ run)) (seat_after now d.part run)
    (same_lower _ _ (λ k. seat_reached d.request (unit_after now k d.part (unit_of k run))))
    ((moves p f refused now run e.turn h en).keeps was)
  where
    d : Deed
    d = deed_on p (board_with p refused f now run) e.turn

board_none : (p : Settings) → AreKeptIn p (board_seat [])
board_none p =
    kept_fewer p (board_seat []) (λ k. Gone) (λ k used. cc)
    (kept_gone (limits_with p (board_seat [])) (range_with_len 0 (tests_in p)))

-- what an admission makes joins in them
rule_slots : (p : Settings) (run : List Happening) (place global : ℕ) (slot : Option ℕ) (test : PlanTest)
    → slice_get p.plan.tests place ≡ Some test → admitted (limits_of p (units p run)) ≡ Some (Run place global slot)
    → (global ≡ free_slot (limits_with p (board_seat run)))
    × (slot ≡ free_group_slot (limits_with p (board_seat run)) (claim_of p.plan.groups test))
rule_slots p run place global slot test planned runs =
    by_run (run_is (limits_with p (board_seat run)) place global slot
    (ap admitted (sym (limits_on_board p run)) ∙ runs))
  where
    by_run : IsRun (limits_with p (board_seat run)) place global slot
        → (global ≡ free_slot (limits_with p (board_seat run)))
        × (slot ≡ free_group_slot (limits_with p (board_seat run)) (claim_of p.plan.groups test))
    by_run r =
        let same : r.claim ≡ claim_of p.plan.groups test = same_Some _ _ (sym r.claimed
        ∙ slice_get-map (claim_of p.plan.groups) p.plan.tests place
        ∙ ap (option_map (claim_of p.plan.groups)) planned) in
        (r.slot, r.slot_within ∙ ap (free_group_slot (limits_with p (board_seat run))) same)

joins_so : (p : Settings) (past : List Happening) (e : Entry) → HoldsAfter p past → enabled p past e.turn ≡ true
    → ArePlanUnits p (sub_run past) → AreKeptIn p (board_seat (sub_run past)) → (first : UnitView)
    → (happening p past e).part ≡ Some (Joins first) → JoinsInSlots p (sub_run past) first
joins_so p past e h en plan kept first is =
    by_new (joins_new p (frame_of p past) (was_refused past) (clock past) run e.turn en first is)
  where
    run : List Happening
    run = sub_run past

    index : Option StressIndex
    index = index_in p (frame_of p past)

    here : Does p (frame_of p past) (clock past) run (deed_on p (board p past) e.turn)
    here = by_begin (deed_on p (board p past) e.turn).begins refl
      where
        does : Does p (frame_of p past) (clock past) (base_of (deed_on p (board p past) e.turn).begins run)
            (deed_on p (board p past) e.turn)
        does = does_after p past e h en

        by_begin : (b : Bool) → (deed_on p (board p past) e.turn).begins ≡ b
            → Does p (frame_of p past) (clock past) run (deed_on p (board p past) e.turn)
        by_begin true begins =
            let never : None ≡ Some (Joins first) = sym (does.marks.begins begins).1.part ∙ is in cc
        by_begin false begins = subst
            (λ b. Does p (frame_of p past) (clock past) (base_of b run) (deed_on p (board p past) e.turn)) begins does

    fits : PartFits p (clock past) run (Some (Joins first))
    fits = subst (PartFits p (clock past) run) is here.part

    after : AreKeptIn p (seat_after (clock past) (Some (Joins first)) run)
    after = subst (λ part. AreKeptIn p (seat_after (clock past) part run)) is
        ((moves p (frame_of p past) (was_refused past) (clock past) run e.turn h en).keeps kept)

    runs_so : (place global : ℕ) (slot : Option ℕ) (test : PlanTest) → slice_get p.plan.tests place ≡ Some test
        → admitted (limits_of p (units p run)) ≡ Some (Run place global slot)
        → first ≡ first_view p index (unit_of_test p place) (slots_of test global slot)
        (handed_to p (units p run) test) test
        → JoinsInSlots p run first
    runs_so place global slot test planned runs same =
        let rule = rule_slots p run place global slot test planned runs in
        subst (λ first. JoinsInSlots p run first) (sym same) (
          test,
          (
            test_there p place test planned,
            λ matched. are_least p (frame_of p past) (clock past) run place global slot test
                (first_view p index (unit_of_test p place) (slots_of test global slot)
                (handed_to p (units p run) test) test)
                (record {
                  holds = h;
                  units = plan;
                  planned = planned;
                  unit = refl;
                  unknown = subst (λ first. unit_of (number first) run ≡ None) same fits.1.unknown;
                  held = refl;
                  own = (subst (λ first. AreKeptIn p (seat_after (clock past) (Some (Joins first)) run)) same after).1;
                  all = rule.0;
                  part = rule.1;
                }),
          ),
        )

    by_kind : (new : Newcomer) → first ≡ new.unit
        → Newcomes p index (units p run) new ⊎ ScriptComes p index (units p run) new → JoinsInSlots p run first
    by_kind new same (inr found) =
        subst (λ first. JoinsInSlots p run first) (sym (same ∙ ap (λ (n : Newcomer). n.unit) found.is)) tt
    by_kind new same (inl found) = by_case found.is
      where
        by_case : Becomes p index (units p run) found.place found.test new → JoinsInSlots p run first
        by_case (inl (reason, skip, made)) =
            subst (λ first. JoinsInSlots p run first) (sym (same ∙ ap (λ (n : Newcomer). n.unit) made)) (
              found.test,
              (
                test_there p found.place found.test found.planned,
                λ matched. let never : Some reason ≡ None = sym skip ∙ matched in cc,
              ),
            )
        by_case (inr (skip, (global, (slot, runs, made)))) =
            runs_so found.place global slot found.test found.planned runs (same ∙ ap (λ (n : Newcomer). n.unit) made)

    by_new : (new : Newcomer) × ((newcomer p index (units p run) ≡ Some new) × (first ≡ new.unit)
        × ((deed_on p (board p past) e.turn).sent ≡ Some new.sent))
        → JoinsInSlots p run first
    by_new (new, (e, same, sent)) = by_kind new same (newcomer_is p index (units p run) new e)

pub slots_least : (p : Settings) (journal : List Entry) (e : Entry) → IsLegal p (journal ++ e ∷ []) → (first : UnitView)
    → (happening p (past_of p journal) e).part ≡ Some (Joins first) → JoinsInSlots p (sub_run (past_of p journal)) first
slots_least p journal e legal first is =
    let backward : IsLegalBackward p (e ∷ reverse journal) =
    subst (IsLegalBackward p) (reverse-append journal (e ∷ [])) legal in
    joins_so p (history p (reverse journal)) e (holds p (reverse journal) backward.2) backward.0
    (plan_units p (reverse journal) backward.2)
    (by_journal p (λ run. AreKeptIn p (board_seat run)) (board_none p) (board_kept p) (reverse journal) backward.2)
    first is
