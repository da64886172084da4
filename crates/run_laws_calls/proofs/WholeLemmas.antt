-- A whole history says what its newest sub-run says.
use Rattle.std.proofs.Common.{◌≡◌, ◌⊎◌, inl, inr, ℕ, ◌||◌, ◌&&◌, List, [], ◌∷◌, ◌++◌, map, Bool, true}
use Rattle.std.proofs.Common.{false, not, if◌then◌else◌, Option, Some, None, option_to_list, length}
use Rattle.std.proofs.Common.{refl, ap, sym, subst, ◌∙◌, suc, reverse}
use Rattle.std.specs.Cmp.{first_so, second_so}
use Rattle.std.specs.List.{cons_option}
use Rattle.std.proofs.lemmas.List.{length-reverse, map-append, reverse-append}
use Rattle.run_capture.proofs.Facts.{not_true}
use Rattle.run_events.specs.declared.ask.Ask.{Ask}
use Rattle.run_events.specs.Cancel.{greater}
use Rattle.run_events.specs.declared.settings.Settings.{Settings}
use Rattle.run_model.specs.declared.entry.Entry.{Entry}
use Rattle.run_model.specs.declared.happening.Happening.{Happening}
use Rattle.run_model.specs.Board.{Deed, board, said}
use Rattle.run_model.specs.declared.dispatcher_view.DispatcherView.{DispatcherView}
use Rattle.run_laws.proofs.board.OnBoard.{board_of, frame_of}
use Rattle.run_model.specs.Journal.{IsLegalBackward, history, past_of}
use Rattle.run_model.specs.Story.{deliveries, is_at_retry, is_at_start, stopped_at}
use Rattle.run_model.specs.Turns.{enabled, ends_as, happening, nothing_done, takes_turn, turn_of_unit}
use Rattle.run_model.specs.Words.{asked, clock, ended_runs, events_in, is_on, is_over, sub_run, told}
use Rattle.run_laws.proofs.board.Deeds.{base_of}
use Rattle.run_laws.proofs.board.Kept.{HoldsAfter, IsBeforeRuns, IsOfRun, does_after, holds, some_base, where_joins}
use Rattle.run_laws.proofs.told.Begins.{begins_only}
use Rattle.run_laws_calls.specs.Whole.{AddsOne, IsOneRun, SayTheSame, asks_of}
use Rattle.run_laws.proofs.board.Order.{either_false}
use Rattle.run_laws.proofs.board.Ready.{history-length}

-- one more entry is one more happening
past_next : (p : Settings) (journal : List Entry) (e : Entry)
    → past_of p (journal ++ e ∷ []) ≡ happening p (past_of p journal) e ∷ past_of p journal
past_next p journal e = ap (history p) (reverse-append journal (e ∷ []))

pub adds_one : (p : Settings) (journal : List Entry) (e : Entry) → AddsOne p journal e
adds_one p journal e = record {
  past = past_next p journal e;
  told = ap told (past_next p journal e);
  asked = ap asked (past_next p journal e)
      ∙ ap (λ n. asked past ++ map (λ ask. (n, ask)) (option_to_list (happening p past e).asked)) as_long;
}
  where
    past : List Happening
    past = past_of p journal

    as_long : length past ≡ length journal
    as_long = history-length p (reverse journal) ∙ length-reverse journal

-- two histories say the same after one more turn, and so often let a unit go
record Alike (past run : List Happening) : Type 0 where
  same : SayTheSame past run
  deliveries : (k : ℕ) → deliveries k past ≡ deliveries k run
  stopped : (k : ℕ) → stopped_at k past ≡ stopped_at k run

asks-one : (n : ℕ) (o : Option Ask)
    → map (λ (a : ℕ × Ask). a.1) (map (λ ask. (n, ask)) (option_to_list o)) ≡ option_to_list o
asks-one n None = refl
asks-one n (Some ask) = refl

asks-cons : (x : Happening) (past : List Happening) → asks_of (x ∷ past) ≡ asks_of past ++ option_to_list x.asked
asks-cons x past =
    map-append (λ (a : ℕ × Ask). a.1) (asked past) (map (λ ask. (length past, ask)) (option_to_list x.asked))
    ∙ ap (λ asks. asks_of past ++ asks) (asks-one (length past) x.asked)

alike_more : (x : Happening) (past run : List Happening) → Alike past run → Alike (x ∷ past) (x ∷ run)
alike_more x past run h = record {
  same = record {
    told = ap (λ es. es ++ events_in x) h.same.told;
    asked = asks-cons x past ∙ ap (λ asks. asks ++ option_to_list x.asked) h.same.asked ∙ sym (asks-cons x run);
    sent = ap (λ ms. ms ++ option_to_list x.sent) h.same.sent;
    causes = ap (λ rs. cons_option x.cause rs) h.same.causes;
    reason = ap (λ why. greater why x.cause) h.same.reason;
    never = λ k. ap is_at_start (stops k);
    left = λ k. ap is_at_retry (stops k);
  };
  deliveries = λ k. rw (h.deliveries k) refl;
  stopped = stops;
}
  where
    stops : (k : ℕ) → stopped_at k (x ∷ past) ≡ stopped_at k (x ∷ run)
    stops k = rw (h.deliveries k, h.same.reason, h.stopped k) refl

alike_still : (now : ℕ) (e : Entry) (past : List Happening) → Alike past [] → Alike (said now e nothing_done ∷ past) []
alike_still now e past h = record {
  same = record {
    told = ap (λ es. es ++ []) h.same.told;
    asked = asks-cons (said now e nothing_done) past ∙ ap (λ asks. asks ++ []) h.same.asked;
    sent = ap (λ ms. ms ++ []) h.same.sent;
    causes = h.same.causes;
    reason = ap (λ why. greater why None) h.same.reason;
    never = λ k. ap is_at_start (stops k);
    left = λ k. ap is_at_retry (stops k);
  };
  deliveries = λ k. rw (h.deliveries k) refl;
  stopped = stops;
}
  where
    stops : (k : ℕ) → stopped_at k (said now e nothing_done ∷ past) ≡ None
    stops k = rw (h.stopped k) refl

alike_none : Alike [] []
alike_none = record {
  same = record {
    told = refl;
    asked = refl;
    sent = refl;
    causes = refl;
    reason = refl;
    never = λ k. refl;
    left = λ k. refl;
  };
  deliveries = λ k. refl;
  stopped = λ k. refl;
}

-- no turn is enabled once the run is over
pub going : (p : Settings) (past : List Happening) (e : Entry) → enabled p past e.turn ≡ true → is_over past ≡ false
going p past e en =
    not_true (is_over past)
    (first_so (not (is_over past)) (takes_turn p (board p past) e.turn (turn_of_unit e.turn)) en)

-- a turn ends a run that is no stress run where it ends a sub-run
ends_over : (p : Settings) (past : List Happening) (e : Entry) → p.stress ≡ None → HoldsAfter p past
    → enabled p past e.turn ≡ true → (happening p past e).ends ≡ true → (happening p past e).over ≡ true
ends_over p past e single h en ends =
    ap (λ (d : Deed). d.over) ((does_after p past e h en).marks.ends ends).0
    ∙ ap (λ o. (ends_as (clock past) d o).over) single
  where
    d : DispatcherView
    d = (board_of p (frame_of p past) (clock past) (base_of (happening p past e).begins (sub_run past))).dispatcher

-- so a sub-run of it has ended only where the run is over
still_on : (p : Settings) (backward : List Entry) → p.stress ≡ None → IsLegalBackward p backward
    → is_over (history p backward) ≡ false → is_on (sub_run (history p backward)) ≡ false
    → sub_run (history p backward) ≡ []
still_on p [] single legal going_on off = refl
still_on p (e ∷ before) single legal going_on off =
    by_run (where_joins p past e h legal.0)
    (still_on p before single legal.2 (either_false x.over (is_over past) going_on).1)
  where
    past : List Happening
    past = history p before

    x : Happening
    x = happening p past e

    h : HoldsAfter p past
    h = holds p before legal.2

    by_end : (ends : Bool) → x.ends ≡ ends → x.ends ≡ false
    by_end false is = is
    by_end true is =
        let never : true ≡ false =
        sym (ends_over p past e single h legal.0 is) ∙ (either_false x.over (is_over past) going_on).0 in cc

    off_both : (ends begins on : Bool) → ends ≡ false → (not ends && (begins || on)) ≡ false
        → (begins ≡ false) × (on ≡ false)
    off_both true begins on is off = cc
    off_both false true on is off = cc
    off_both false false on is off = (refl, off)

    by_run : IsOfRun p past e ⊎ IsBeforeRuns p past e → (is_on (sub_run past) ≡ false → sub_run past ≡ [])
        → sub_run (x ∷ past) ≡ []
    by_run (inr none) earlier = none.still
    by_run (inl of) earlier =
        let both = off_both x.ends x.begins (is_on of.base) (by_end x.ends refl) (sym (ap is_on of.joins) ∙ off) in
        let same : of.base ≡ sub_run past = of.is ∙ ap (λ b. base_of b (sub_run past)) both.0 in
        absurd (some_base p past e of both.0 (same ∙ earlier (sym (ap is_on same) ∙ both.1)))

-- and none comes after another one
first_only : (p : Settings) (e : Entry) (before : List Entry) → p.stress ≡ None → IsLegalBackward p (e ∷ before)
    → (happening p (history p before) e).begins ≡ true → sub_run (history p before) ≡ []
first_only p e before single legal begins =
    still_on p before single legal.2 (going p past e legal.0)
    (not_true (is_on (sub_run past)) (first_so (not (is_on (sub_run past))) (not (is_over past))
    (second_so (not (is_over past)) (not (is_on (sub_run past)) && not (is_over past))
    (subst (λ turn. enabled p past turn ≡ true) (begins_only p (board p past) e.turn begins) legal.0))))
  where
    past : List Happening
    past = history p before

-- so a history and its newest sub-run
alike : (p : Settings) (backward : List Entry) → p.stress ≡ None → IsLegalBackward p backward
    → Alike (history p backward) (sub_run (history p backward))
alike p [] single legal = alike_none
alike p (e ∷ before) single legal =
    by_run (where_joins p past e (holds p before legal.2) legal.0) (alike p before single legal.2)
  where
    past : List Happening
    past = history p before

    x : Happening
    x = happening p past e

    same_base : (b : Bool) → x.begins ≡ b → sub_run past ≡ base_of b (sub_run past)
    same_base true is = first_only p e before single legal is
    same_base false is = refl

    by_run : IsOfRun p past e ⊎ IsBeforeRuns p past e → Alike past (sub_run past)
        → Alike (x ∷ past) (sub_run (x ∷ past))
    by_run (inl of) h =
        subst (Alike (x ∷ past)) (sym of.joins)
        (alike_more x past of.base (subst (Alike past) (same_base x.begins refl ∙ sym of.is) h))
    by_run (inr none) h =
        subst (Alike (x ∷ past)) (sym none.still)
        (subst (λ d. Alike (said (clock past) e d ∷ past) []) (sym none.idle)
        (alike_still (clock past) e past (subst (Alike past) none.none h)))

-- no sub-run has ended before the run is over
none_ended : (p : Settings) (backward : List Entry) → p.stress ≡ None → IsLegalBackward p backward
    → is_over (history p backward) ≡ false → ended_runs (history p backward) ≡ []
none_ended p [] single legal going_on = refl
none_ended p (e ∷ before) single legal going_on =
    by_end x.ends refl (none_ended p before single legal.2 both.1)
  where
    past : List Happening
    past = history p before

    x : Happening
    x = happening p past e

    both : (x.over ≡ false) × (is_over past ≡ false)
    both = either_false x.over (is_over past) going_on

    by_end : (ends : Bool) → x.ends ≡ ends → ended_runs past ≡ []
        → (if ends then sub_run (x ∷ past) ∷ ended_runs past else ended_runs past) ≡ []
    by_end false is earlier = earlier
    by_end true is earlier =
        let never : true ≡ false = sym (ends_over p past e single (holds p before legal.2) legal.0 is) ∙ both.0 in cc

ended : (p : Settings) (backward : List Entry) → p.stress ≡ None → IsLegalBackward p backward
    → ended_runs (history p backward)
    ≡ (if is_over (history p backward) then sub_run (history p backward) ∷ [] else [])
ended p [] single legal = refl
ended p (e ∷ before) single legal = by_over (is_over (history p (e ∷ before))) refl
  where
    past : List Happening
    past = history p before

    x : Happening
    x = happening p past e

    ends : is_over (x ∷ past) ≡ true → x.ends ≡ true
    ends over =
        (does_after p past e (holds p before legal.2) legal.0).marks.finishes
        (first_holds x.over (is_over past) over (going p past e legal.0))
      where
        first_holds : (a b : Bool) → (a || b) ≡ true → b ≡ false → a ≡ true
        first_holds true b h n = refl
        first_holds false b h n = cc

    by_over : (b : Bool) → is_over (x ∷ past) ≡ b
        → ended_runs (x ∷ past) ≡ (if b then sub_run (x ∷ past) ∷ [] else [])
    by_over false off = none_ended p (e ∷ before) single legal off
    by_over true over =
        ap (λ b. if b then sub_run (x ∷ past) ∷ ended_runs past else ended_runs past) (ends over)
        ∙ ap (λ runs. sub_run (x ∷ past) ∷ runs) (none_ended p before single legal.2 (going p past e legal.0))

pub one_run : (p : Settings) (backward : List Entry) → p.stress ≡ None → IsLegalBackward p backward
    → IsOneRun (history p backward)
one_run p backward single legal =
    record { same = (alike p backward single legal).same; ended = ended p backward single legal }
