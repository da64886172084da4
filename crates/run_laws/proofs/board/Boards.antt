-- The board after one more turn: a field at a time.
use Rattle.std.proofs.Common.{◌≡◌, ◌≢◌, ◌⊎◌, inl, inr, ℕ, ◌+◌, ◌<◌, ◌==◌, ◌||◌, List, [], ◌∷◌, ◌++◌}
use Rattle.std.proofs.Common.{length, get_or, set, Bool, true, false, if◌then◌else◌, Option, Some, None, option_map}
use Rattle.std.proofs.Common.{count_by, cond, refl, ap, sym, ◌∙◌, arith}
use Rattle.std.proofs.Common.{get_or-set_other, map}
use Rattle.std.proofs.Math.ListN.{length-set}
use Rattle.std.proofs.lemmas.List.{append-nil, get_or-map, length-map}
use Rattle.std.proofs.lemmas.List.FromFn.{fill_by_all}
use Rattle.std.proofs.lemmas.Grind.{get_or-set_at}
use Rattle.std.proofs.lemmas.List.Sums.{sum_by-cons}
use Rattle.run_events.specs.declared.settings.Settings.{Settings}
use Rattle.run_events.specs.declared.turn.Turn.{Turn}
use Rattle.run_events.specs.declared.request.Request.{Request}
use Rattle.run_events.specs.declared.events.ReporterEvent.{ReporterEvent}
use Rattle.run_model.specs.declared.dispatcher_view.Tally.{Tally}
use Rattle.run_model.specs.declared.entry.Entry.{Entry}
use Rattle.run_model.specs.declared.happening.Happening.{Happening}
use Rattle.run_model.specs.declared.happening.UnitPart.{UnitPart}
use Rattle.run_model.specs.declared.happening.UnitPart.TheVariants.{Joins, Acts}
use Rattle.run_model.specs.declared.unit_view.UnitView.{UnitView}
use Rattle.run_model.specs.Unit.{row, reached, reach}
use Rattle.run_model.specs.Words.{clock, ns_of, ended_runs, stats, sub_run, told, unit_after, unit_of, units}
use Rattle.run_model.specs.Words.{tally}
use Rattle.run_model.specs.Words.{was_refused}
use Rattle.run_model.specs.Environment.{number}
use Rattle.run_model.specs.Admission.{units_in}
use Rattle.run_model.specs.Board.{Board, Deed, deed_events, board, said, units_after, reach_all}
use Rattle.run_model.specs.Board.{with_cause, step, answered, anew, moved_in, sub_runs_after, sub_run_watch_after}
use Rattle.run_model.specs.Turns.{nothing_done, enabled, deed_on, happening}
use Rattle.run_model.specs.Journal.{history, IsLegalBackward}
use Rattle.run_laws.proofs.board.Queue.{queue-cons}
use Rattle.run_laws.proofs.board.RoundLemmas.{rounds-cons, answers-cons}
use Rattle.run_model.specs.Rounds.{watch_after, act_of}
use Rattle.run_laws.proofs.board.OnBoard.{Frame, frame_of, board_with, units-length, units-at}
use Rattle.run_laws.proofs.board.DeedFits.{Does}
use Rattle.run_laws.proofs.board.Holds.{HasRounds}
use Rattle.run_laws.proofs.board.Deeds.{base_of}
use Rattle.run_laws.proofs.board.Kept.{HoldsAfter, IsOfRun, IsBeforeRuns, where_joins, holds}
use Rattle.run_laws.proofs.board.Nothing.{tally-nil, units-nil}
use Rattle.run_model.specs.SubRuns.{sub_runs_of}
use Rattle.run_model.specs.SubRuns.{sub_runs_in, with_sub_run, is_failed, summary_of}
use Rattle.run_events.specs.declared.plan.TestInstanceId.{TestInstanceId}
use Rattle.std.proofs.Common.{suc}
use Rattle.std.proofs.Common.{zero}
use Rattle.run_model.specs.Reruns.{unseen_among, unseen_by, sees}
use Rattle.std.specs.List.{list_any}
use Rattle.std.proofs.lemmas.List.Folds.{list_any-append}
use Rattle.run_laws.proofs.board.Tallies.{tally-cons, causes-cons, with_cause-none, ended_tally}

-- the list of units after a part, at one of them
at_part : (now : ℕ) (part : Option UnitPart) (us : List (Option UnitView)) (k : ℕ) → k < length us
    → get_or (units_after now part us) k None ≡ unit_after now k part (get_or us k None)
at_part now None us k h = refl
at_part now (Some (Joins first)) us k h = by_part ((number first) == k) refl
  where
    by_part : (b : Bool) → ((number first) == k) ≡ b
        → get_or (set us (number first) (Some first)) k None
        ≡ (if (number first) == k then Some first else get_or us k None)
    by_part true e = let here : k ≡ (number first) = grind arith in
        rw e (get_or-set_at us (number first) k (Some first) None here (omega arith))
    by_part false e = let apart : k ≢ (number first) = grind arith in
        rw e (get_or-set_other us (number first) k (Some first) None apart)
at_part now (Some (Acts j turn)) us k h = by_part (j == k) refl
  where
    by_part : (b : Bool) → (j == k) ≡ b
        → get_or (set us j (option_map (λ v. (row now turn v).next) (get_or us j None))) k None
        ≡ (if j == k then option_map (λ v. (row now turn v).next) (get_or us k None) else get_or us k None)
    by_part true e =
        let here : k ≡ j = grind arith in
        rw e (get_or-set_at us j k (option_map (λ v. (row now turn v).next) (get_or us j None)) None here (omega arith)
        ∙ ap (λ j. option_map (λ v. (row now turn v).next) (get_or us j None)) (sym here))
    by_part false e = let apart : k ≢ j = grind arith in rw e (get_or-set_other us j k _ None apart)

pub length-units_after : (now : ℕ) (part : Option UnitPart) (us : List (Option UnitView))
    → length (units_after now part us) ≡ length us
length-units_after now None us = refl
length-units_after now (Some (Joins first)) us = length-set us (number first) (Some first)
length-units_after now (Some (Acts j turn)) us = length-set us j _

-- and after a broadcast
at_reach : (request : Option Request) (us : List (Option UnitView)) (k : ℕ) → k < length us
    → get_or (reach_all request us) k None ≡ reach request (get_or us k None)
at_reach None us k h = refl
at_reach (Some request) us k h = get_or-map (option_map (reached request)) us k None None h

length-reach_all : (request : Option Request) (us : List (Option UnitView))
    → length (reach_all request us) ≡ length us
length-reach_all None us = refl
length-reach_all (Some request) us = length-map us (option_map (reached request))

-- the units after one more turn
units-cons : (p : Settings) (x : Happening) (run : List Happening)
    → reach_all x.request (units_after x.moment x.part (units p run)) ≡ units p (x ∷ run)
units-cons p x run =
    fill_by_all (λ k. unit_of k (x ∷ run)) (reach_all x.request
    (units_after x.moment x.part (units p run))) (units_in p)
    None
    (length-reach_all x.request (units_after x.moment x.part (units p run)) ∙ moved)
    (λ k h. at_reach x.request (units_after x.moment x.part (units p run)) k (omega (arith, moved))
    ∙ ap (reach x.request) (at_part x.moment x.part (units p run) k (omega (arith, units-length p run))
    ∙ ap (unit_after x.moment k x.part) (units-at p run k h)))
  where
    moved : length (units_after x.moment x.part (units p run)) ≡ units_in p
    moved = length-units_after x.moment x.part (units p run) ∙ units-length p run

-- what is around a sub-run after one more deed
abbrev frame_after : ℕ → Tally → Frame → Deed → Frame
frame_after now t f d = record {
  over = d.over || f.over;
  watch = watch_after now (act_of d.told) f.watch;
  sub_runs = sub_runs_after t f.sub_runs d;
  sub_run_watch = sub_run_watch_after now f.sub_run_watch d;
  rerun = option_map (unseen_among (deed_events d)) f.rerun;
}

unseen_more : (told events : List ReporterEvent) (o : Option (List TestInstanceId))
    → option_map (unseen_among (told ++ events)) o ≡ option_map (unseen_among events) (option_map (unseen_among told) o)
unseen_more told events None = refl
unseen_more told events (Some ids) = ap (λ ids. Some ids) (rest ids)
  where
    by_both : (id : TestInstanceId) (ids : List TestInstanceId) (before after : Bool)
        → list_any (sees id) told ≡ before → list_any (sees id) events ≡ after
        → unseen_among (told ++ events) ids ≡ unseen_among events (unseen_among told ids)
        → unseen_among (told ++ events) (id ∷ ids) ≡ unseen_among events (unseen_among told (id ∷ ids))
    by_both id ids true after was is same = rw (list_any-append (sees id) told events, was) same
    by_both id ids false true was is same = rw (list_any-append (sees id) told events, was, is) same
    by_both id ids false false was is same =
        rw (list_any-append (sees id) told events, was, is) (ap (λ ids. id ∷ ids) same)

    rest : (ids : List TestInstanceId) → unseen_among (told ++ events) ids ≡ unseen_among events (unseen_among told ids)
    rest [] = refl
    rest (id ∷ ids) = by_both id ids (list_any (sees id) told) (list_any (sees id) events) refl refl (rest ids)

-- the sub-runs that have ended, with one more
one_more : (p : Settings) (run : List Happening) (earlier : List (List Happening))
    → sub_runs_in p (run ∷ earlier) ≡ with_sub_run (stats p run) (sub_runs_in p earlier)
one_more p run earlier =
    ap (λ n. record (sub_runs_in p (run ∷ earlier)) { failed = n })
    (sum_by-cons (λ run. cond (is_failed (summary_of p run)) 1 0) run earlier
    ∙ one_first (cond (is_failed (summary_of p run)) 1 0) (count_by (λ run. is_failed (summary_of p run)) earlier))
    ∙ ap (λ n. record (with_sub_run (stats p run) (sub_runs_in p earlier)) { ended = n }) (one_longer (length earlier))
  where
    one_first : (a b : ℕ) → a + b ≡ b + a
    one_first a b = omega arith

    one_longer : (n : ℕ) → suc n ≡ n + 1
    one_longer n = omega arith

frame-cons : (p : Settings) (past base : List Happening) (e : Entry) (d : Deed)
    → sub_run (said (clock past) e d ∷ past) ≡ said (clock past) e d ∷ base
    → Does p (frame_of p past) (clock past) base d
    → frame_of p (said (clock past) e d ∷ past) ≡ frame_after (clock past) (tally p base) (frame_of p past) d
frame-cons p past base e d joins does =
    ap (λ runs. record (frame_of p (said (clock past) e d ∷ past)) { sub_runs = runs }) (by_end d.ends refl)
    ∙ ap (λ rerun. record (frame_after (clock past) (tally p base) (frame_of p past) d) { rerun = rerun })
    (unseen_more (told past) (deed_events d) p.expected)
  where
    x : Happening
    x = said (clock past) e d

    by_end : (b : Bool) → d.ends ≡ b
        → sub_runs_of p (x ∷ past) ≡ (if b then with_sub_run (tally p base).stats (sub_runs_of p past)
        else sub_runs_of p past)
    by_end true ends =
        ap (sub_runs_in p) (ap (λ b. if b then sub_run (x ∷ past) ∷ ended_runs past else ended_runs past) ends)
        ∙ ap (λ run. sub_runs_in p (run ∷ ended_runs past)) joins
        ∙ one_more p (x ∷ base) (ended_runs past)
        ∙ ap (λ (t : Tally). with_sub_run t.stats (sub_runs_of p past))
        (ended_tally p (frame_of p past) (clock past) base e d does ends)
    by_end false ends = ap (sub_runs_in p)
        (ap (λ b. if b then sub_run (x ∷ past) ∷ ended_runs past else ended_runs past) ends)

-- the board as a sub-run begins is that of one in which nothing has happened
anew-is : (p : Settings) (f : Frame) (refused : Bool) (now : ℕ) (run : List Happening)
    → anew (board_with p refused f now run) ≡ board_with p refused f now []
anew-is p f refused now run =
    ap (λ us. record (anew (board_with p refused f now run)) { units = us }) none_admitted
    ∙ ap (λ t. record (board_with p refused f now []) {
      dispatcher = record (board_with p refused f now []).dispatcher { tally = t };
    }) (tally-nil p)
  where
    nones : List (Option UnitView) → List (Option UnitView)
    nones us = map (λ u. None) us

    none : (us : List (Option UnitView)) (k : ℕ) → get_or (nones us) k None ≡ None
    none [] k = refl
    none (u ∷ us) zero = refl
    none (u ∷ us) (suc k) = none us k

    none_admitted : nones (units p run) ≡ units p []
    none_admitted = units-nil p (nones (units p run)) (length-map (units p run) (λ u. None) ∙ units-length p run)
        (none (units p run))

-- the board after one more deed of a sub-run
board-cons : (p : Settings) (f : Frame) (refused : Bool) (now : ℕ) (run : List Happening) (e : Entry) (d : Deed)
    → HasRounds run → Does p f now run d
    → board_with p refused (frame_after now (tally p run) f d) (now + ns_of e.turn) (said now e d ∷ run)
    ≡ record (moved_in (board_with p refused f now run) d) { clock = now + ns_of e.turn }
board-cons p f refused now run e d rounds does =
    rw (
      sym (units-cons p (said now e d) run),
      queue-cons (said now e d) run does.room,
      tally-cons p f now run e d does,
      causes-cons p now run e d,
      rounds-cons now run e d does.marks.stops,
      answers-cons p f now run e d rounds does.marks,
    ) refl

-- where nothing has begun, a turn that does nothing moves the clock alone
idle_step : (p : Settings) (f : Frame) (refused : Bool) (now : ℕ) (turn : Turn)
    → board_with p refused f (now + ns_of turn) [] ≡ step (board_with p refused f now []) turn nothing_done
idle_step p f refused now turn =
    ap (λ t. record (board_with p refused f (now + ns_of turn) []) {
      dispatcher = record (board_with p refused f now []).dispatcher { tally = t };
    }) (sym (with_cause-none (tally p [])))
    ∙ ap (λ rerun. record (board_with p refused f (now + ns_of turn) []) {
      dispatcher = record (board_with p refused f now []).dispatcher {
        tally = with_cause None (tally p []);
        rerun = rerun;
      };
    }) (sym (unseen_none f.rerun))
  where
    all : (ids : List TestInstanceId) → unseen_among [] ids ≡ ids
    all [] = refl
    all (id ∷ ids) = ap (λ ids. id ∷ ids) (all ids)

    unseen_none : (o : Option (List TestInstanceId)) → option_map (unseen_among []) o ≡ o
    unseen_none None = refl
    unseen_none (Some ids) = ap Some (all ids)

-- so each enabled turn after a history that holds moves the board by its step
board_step : (p : Settings) (past : List Happening) (e : Entry) → HoldsAfter p past → enabled p past e.turn ≡ true
    → board p (happening p past e ∷ past)
    ≡ answered (step (board p past) e.turn (deed_on p (board p past) e.turn)) e.refused
board_step p past e h en = by_run (where_joins p past e h en)
  where
    d : Deed
    d = deed_on p (board p past) e.turn

    x : Happening
    x = happening p past e

    refused : Bool
    refused = was_refused past

    f : Frame
    f = frame_of p past

    after : Frame → List Happening → Board
    after f run = board_with p (was_refused (x ∷ past)) f (clock past + ns_of e.turn) run

    by_run : IsOfRun p past e ⊎ IsBeforeRuns p past e
        → after (frame_of p (x ∷ past)) (sub_run (x ∷ past)) ≡ answered (step (board p past) e.turn d) e.refused
    by_run (inl of) =
        ap (after (frame_of p (x ∷ past))) of.joins
        ∙ ap (λ f. after f (x ∷ of.base)) (frame-cons p past of.base e d of.joins of.does)
        ∙ ap (λ b. answered b e.refused) (board-cons p f refused (clock past) of.base e d of.holds.rounds of.does
        ∙ ap (λ b. record (moved_in b d) { clock = clock past + ns_of e.turn }) (before of))
      where
        by_begin : (b : Bool)
            → board_with p refused f (clock past) (base_of b (sub_run past))
            ≡ (if b then anew (board p past) else board p past)
        by_begin true = sym (anew-is p f refused (clock past) (sub_run past))
        by_begin false = refl

        before : (of : IsOfRun p past e)
            → board_with p refused f (clock past) of.base ≡ (if d.begins then anew (board p past) else board p past)
        before of = ap (board_with p refused f (clock past)) of.is ∙ by_begin d.begins
    by_run (inr idle) =
        ap (after (frame_of p (x ∷ past))) idle.still
        ∙ ap (λ f. after f []) (ap (λ (d : Deed). frame_of p (said (clock past) e d ∷ past)) idle.idle
        ∙ ap (λ events. record (frame_of p past) { rerun = unseen_by p events }) (append-nil (told past)))
        ∙ ap (λ b. answered b e.refused) (idle_step p f refused (clock past) e.turn
        ∙ ap (λ run. step (board_with p refused f (clock past) run) e.turn nothing_done) (sym idle.none)
        ∙ ap (step (board p past) e.turn) (sym idle.idle))

pub board-steps : (p : Settings) (backward : List Entry) (e : Entry) → IsLegalBackward p backward
    → enabled p (history p backward) e.turn ≡ true
    → board p (happening p (history p backward) e ∷ history p backward)
    ≡ answered (step (board p (history p backward)) e.turn (deed_on p (board p (history p backward)) e.turn)) e.refused
board-steps p backward e legal en = board_step p (history p backward) e (holds p backward legal) en
