-- Every test of a sub-run that has ended has its fate.
use Rattle.std.proofs.Common.{◌≡◌, ◌≢◌, ◌⊎◌, inl, inr, ℕ, zero, suc, ◌<◌, ◌||◌, List, [], ◌∷◌, ◌++◌, length, Bool, true}
use Rattle.std.proofs.Common.{false, not, if◌then◌else◌, Option, Some, None, refl, ap, sym, subst, ◌∙◌, arith}
use Rattle.std.specs.Prelude.{IsTrue}
use Rattle.std.specs.List.{list_all, All, Contains}
use Rattle.std.specs.Option.{option_or}
use Rattle.std.specs.Cmp.{first_so, second_so}
use Rattle.std.proofs.lemmas.List.{append-nil}
use Rattle.std.proofs.lemmas.List.Elements.{filter_map-append, All-nil, All-cons, All-contains}
use Rattle.run_events.specs.declared.settings.Settings.{Settings}
use Rattle.run_events.specs.declared.turn.Turn.TheVariants.{End}
use Rattle.run_events.specs.declared.message.Message.{Message}
use Rattle.run_events.specs.declared.result.ExecuteStatus.{ExecuteStatus}
use Rattle.run_model.specs.declared.entry.Entry.{Entry}
use Rattle.run_model.specs.declared.happening.Happening.{Happening}
use Rattle.run_model.specs.declared.phase.Phase.{Phase}
use Rattle.run_model.specs.declared.phase.Phase.TheVariants.{Over}
use Rattle.run_model.specs.declared.unit_view.AttemptTerms.{AttemptTerms}
use Rattle.run_model.specs.declared.unit_view.UnitView.{UnitView}
use Rattle.run_model.specs.Words.{clock, is_over, sub_run, ended_runs, queue, told, unit_of, units}
use Rattle.run_model.specs.Admission.{is_done, is_last, units_in, unit_terms}
use Rattle.run_model.specs.Board.{Board, Deed, board, said}
use Rattle.run_model.specs.Turns.{enabled, is_complete, is_empty, takes_turn, turn_of_unit, run_turn, deed_on}
use Rattle.run_model.specs.Turns.{happening}
use Rattle.run_model.specs.Journal.{history, IsLegalBackward}
use Rattle.run_model.specs.Accounts.{News, started, failed, finished, skipped, tried, news_of, HasAccount, HasAccountAt}
use Rattle.run_model.specs.Accounts.{is_mismatched, account_of}
use Rattle.run_model.specs.Backoff.{retry_count}
use Rattle.run_model.specs.Story.{OwnTurn, story_of, pieces, is_at_retry, stopped_at, was_left}
use Rattle.run_model.specs.Attempts.{none_goes_on, retries_in, ended_statuses, statuses_of}
use Rattle.run_laws.proofs.told.OnceLemmas.{all_told}
use Rattle.run_model.specs.Fates.{told_ended, account, but_last, failures, MeetsAttemptLaw, HasRetryLeft, HasFate}
use Rattle.run_model.specs.Fates.{HaveFates}
use Rattle.run_laws.proofs.units.AccountRows.{last-append}
use Rattle.run_laws.proofs.board.DeedFits.{or_none}
use Rattle.run_laws.proofs.board.Holds.{Holds, Way, way_of, HasEndedAs, IsOnWayIn, IsOnWayAt, IsOnWay}
use Rattle.run_laws.proofs.units.AttemptLemmas.{IsMadeIf, made_statuses, made_ended, made_last}
use Rattle.run_laws.proofs.board.OnBoard.{board_of, units-length, units-at}
use Rattle.run_laws.proofs.board.Order.{all_at}
use Rattle.run_laws.proofs.told.Bounds.{IsBound, IsBoundAfter, bound_deed, bounds_news, end_cases}
use Rattle.run_laws.proofs.board.Kept.{HoldsAfter, does_after, IsOfRun, IsBeforeRuns, where_joins, holds}
use Rattle.run_laws.proofs.board.OnBoard.{Frame}
use Rattle.run_laws.proofs.board.OnBoard.{frame_of}
use Rattle.run_events.specs.declared.events.ReporterEvent.{ReporterEvent}
use Rattle.std.proofs.Common.{option_to_list}

-- all that was told of some attempts: each but the last was tried again, and the last finished, or failed too
but_last-append : (early : List ExecuteStatus) (s : ExecuteStatus) → but_last (early ++ s ∷ []) ≡ early
but_last-append [] s = refl
but_last-append (x ∷ []) s = refl
but_last-append (x ∷ y ∷ early) s = ap (λ ss. x ∷ ss) (but_last-append (y ∷ early) s)

failures-append : (early : List ExecuteStatus) (s : ExecuteStatus)
    → failures (early ++ s ∷ []) ≡ tried early ++ failed s ∷ []
failures-append early s = rw (but_last-append early s, last-append early s) refl

-- a test that is done, of which nothing waits to be told, has its account, by whether it doesn't match and where it was
-- stopped, and its attempts, which meet their law, or are as many as had begun
abbrev HasFateWith : Bool → Option ℕ → ℕ → List News → List ExecuteStatus → Type 0
HasFateWith mm stopped retries t ss = (t ≡ account mm stopped ss)
    × (mm ≡ false → stopped ≡ None → MeetsAttemptLaw retries ss)
    × ((n : ℕ) → stopped ≡ Some (suc n) → HasRetryLeft retries ss × (length ss ≡ suc n))

-- and no attempt of it goes on
going_none : (terms : AttemptTerms) (v : Option UnitView) (story : List OwnTurn) → is_done v ≡ true
    → IsMadeIf terms v story → none_goes_on terms (pieces story) ≡ true
going_none terms None story d made = cc
going_none terms (Some u) story d made = made_ended terms u (pieces story) made d

fate_of : (mm : Bool) (w : Way) (terms : AttemptTerms) (v : Option UnitView) (story : List OwnTurn) (t : List News)
    → is_done v ≡ true → IsOnWay mm v w → IsMadeIf terms v story
    → HasAccount mm (is_at_retry w.stopped) v t []
    → HasFateWith mm w.stopped (retry_count terms.retries) t (ended_statuses terms (pieces story))
fate_of mm w terms None story t d a made h = cc
fate_of mm w terms (Some u) story t d a made h =
    subst (HasFateWith mm w.stopped (retry_count terms.retries) t) (made_statuses terms u (pieces story) made)
    (subst (λ terms. HasFateWith mm w.stopped (retry_count terms.retries) t u.statuses) made.terms
    (by_match mm a h))
  where
    retries : ℕ
    retries = retry_count u.terms.retries

    skipped_fate : (ph : Phase) (ss : List ExecuteStatus) → w.stopped ≡ None
        → HasAccountAt true (is_at_retry w.stopped) ph ss t [] → HasFateWith true w.stopped retries t ss
    skipped_fate Over [] on (inl h) = let no : [] ≡ skipped ∷ [] = h.1 in cc
    skipped_fate Over [] on (inr h) =
        (h.0, λ e. cc, λ n is. let never : None ≡ Some (suc n) = sym on ∙ is in cc)
    skipped_fate Over (s ∷ ss) on h = absurd h
    skipped_fate ph ss on h = absurd h

    by_stop : (stopped : Option ℕ) (s : ExecuteStatus) (ss : List ExecuteStatus) → HasEndedAs stopped retries (s ∷ ss)
        → HasAccountAt false (is_at_retry stopped) Over (s ∷ ss) t [] → HasFateWith false stopped retries t (s ∷ ss)
    by_stop (Some zero) s ss ended h = let none : length (s ∷ ss) ≡ 0 = ended.1 in absurd (omega arith)
    by_stop (Some (suc n)) s ss ended (early, (x, (e, h))) = (
      h.0 ∙ ap (λ ns. started ∷ ns) (sym (failures-append early x) ∙ ap failures (sym e)),
      λ mm none. cc,
      λ m is. (ended.0, ended.1 ∙ cc),
    )
    by_stop None s ss ended (early, (x, (e, inl h))) = let no : [] ≡ finished (s ∷ ss) ∷ [] = h.1 in cc
    by_stop None s ss ended (early, (x, (e, inr h))) = (
      h.0 ∙ ap (λ ts. started ∷ tried ts ++ finished (s ∷ ss) ∷ [])
          (sym (but_last-append early x) ∙ ap but_last (sym e)),
      λ mm none. ended,
      λ n is. cc,
    )

    by_attempts : (ph : Phase) (ss : List ExecuteStatus) → is_last ph ≡ true → IsOnWayIn retries ph u.attempt ss w
        → HasAccountAt false (is_at_retry w.stopped) ph ss t [] → HasFateWith false w.stopped retries t ss
    by_attempts Over [] l a h = rw a ((rw a at h).0, λ mm none. cc, λ n is. cc)
    by_attempts Over (s ∷ ss) l a h = by_stop w.stopped s ss a.1 h
    by_attempts ph ss l a h = cc

    by_match : (mm : Bool) → IsOnWayAt mm u w → HasAccountAt mm (is_at_retry w.stopped) u.phase u.statuses t []
        → HasFateWith mm w.stopped retries t u.statuses
    by_match true a h = skipped_fate u.phase u.statuses a.1 h
    by_match false a h = by_attempts u.phase u.statuses d a h

-- and each of its attempts has its status
each_of : (mm : Bool) (w : Way) (terms : AttemptTerms) (v : Option UnitView) (story : List OwnTurn) (t : List News)
    → is_done v ≡ true → IsOnWay mm v w → IsMadeIf terms v story → HasAccount mm (is_at_retry w.stopped) v t []
    → length (ended_statuses terms (pieces story)) ≡ length (pieces story)
each_of mm w terms None story t d a made h = cc
each_of mm w terms (Some u) story t d a made h =
    sym (ap length (made_statuses terms u (pieces story) made))
    ∙ by_last (made_last terms u (pieces story) made (over u.phase d))
  where
    over : (ph : Phase) → is_last ph ≡ true → ph ≡ Over
    over Over l = refl
    over ph l = cc

    numbered : (ph : Phase) (ss : List ExecuteStatus) → is_last ph ≡ true
        → IsOnWayIn (retry_count u.terms.retries) ph u.attempt ss w → ss ≢ [] → u.attempt ≡ length ss
    numbered Over [] l a some = absurd (some refl)
    numbered Over (s ∷ ss) l a some = a.0
    numbered ph ss l a some = cc

    none_skipped : (ph : Phase) (ss : List ExecuteStatus) → HasAccountAt true (is_at_retry w.stopped) ph ss t []
        → ss ≡ []
    none_skipped Over [] h = refl
    none_skipped Over (s ∷ ss) h = absurd h
    none_skipped ph ss h = absurd h

    by_match : (mm : Bool) → IsOnWayAt mm u w → HasAccountAt mm (is_at_retry w.stopped) u.phase u.statuses t []
        → u.statuses ≢ [] → u.attempt ≡ length u.statuses
    by_match true a h some = absurd (some (none_skipped u.phase u.statuses h))
    by_match false a h some = numbered u.phase u.statuses d a some

    by_last : ((pieces story ≡ []) × (u.statuses ≡ [])) ⊎ ((u.attempt ≡ length (pieces story)) × (u.statuses ≢ []))
        → length u.statuses ≡ length (pieces story)
    by_last (inl none) = ap length none.1 ∙ sym (ap length none.0)
    by_last (inr some) = sym (by_match mm a h some.1) ∙ some.0

empty_is : (q : List Message) → is_empty q ≡ true → q ≡ []
empty_is [] h = refl
empty_is (m ∷ ms) h = cc

-- the end of a complete sub-run leaves each unit with its fate
ended_fate : (p : Settings) (f : Frame) (now : ℕ) (run : List Happening) (e : Entry) (k : ℕ) → Holds p now run
    → k < units_in p → is_complete (board_of p f now run) ≡ true
    → (tells after : Option ReporterEvent) (over : Bool) → IsBound tells → IsBoundAfter after
    → HasFate p (said now e (bound_deed tells after false true over) ∷ run) k
ended_fate p f now run e k h below complete tells after over own later =
    let all : list_all is_done (units p run) ≡ true =
    second_so (is_empty (queue run)) (list_all is_done (units p run)) complete in
    let empty : queue run ≡ [] = empty_is (queue run)
    (first_so (is_empty (queue run)) (list_all is_done (units p run)) complete) in
    let done : is_done (unit_of k run) ≡ true =
    sym (ap is_done (units-at p run k below))
    ∙ all_at is_done (units p run) k None all (omega (arith, units-length p run)) in
    let made : IsMadeIf (unit_terms p k) (unit_of k run) (story_of k run) = h.made k in
    let told_all : HasAccount (is_mismatched p k) (was_left k run) (unit_of k run) (account_of k (told run)) [] =
    rw empty at (h.accounts k) in
    let fate : HasFateWith (is_mismatched p k) (option_or (stopped_at k run) None) (retries_in p k)
    (account_of k (told run)) (statuses_of p k run) =
    subst (λ o. HasFateWith (is_mismatched p k) o (retries_in p k) (account_of k (told run)) (statuses_of p k run))
    (sym (or_none (stopped_at k run)))
    (fate_of (is_mismatched p k) (way_of k run) (unit_terms p k) (unit_of k run) (story_of k run)
    (account_of k (told run)) done (h.on_way k) made told_all) in
    record {
      account = nothing_more ∙ fate.0;
      finished = fate.1;
      left = fate.2;
      ended = going_none (unit_terms p k) (unit_of k run) (story_of k run) done made;
      once = ap told_ended (nothing_more)
          ∙ all_told (is_mismatched p k) (was_left k run) (unit_of k run) (statuses_of p k run)
          (account_of k (told run)) done
          told_all (λ u is. own_statuses u is made);
      each = each_of (is_mismatched p k) (way_of k run) (unit_terms p k) (unit_of k run) (story_of k run)
          (account_of k (told run)) done (h.on_way k) made told_all;
    }
  where
    nothing_more : account_of k (told run ++ (option_to_list tells ++ option_to_list after)) ≡ account_of k (told run)
    nothing_more =
        filter_map-append (news_of k) (told run) (option_to_list tells ++ option_to_list after)
        ∙ ap (λ ns. account_of k (told run) ++ ns) (bounds_news k tells after own later)
        ∙ append-nil (account_of k (told run))

    own_statuses : (u : UnitView) → unit_of k run ≡ Some u → IsMadeIf (unit_terms p k) (unit_of k run) (story_of k run)
        → u.statuses ≡ statuses_of p k run
    own_statuses u is made =
        made_statuses (unit_terms p k) u (pieces (story_of k run))
        (subst (λ v. IsMadeIf (unit_terms p k) v (story_of k run)) is made)

end_fates : (p : Settings) (f : Frame) (now : ℕ) (run : List Happening) (e : Entry) (k : ℕ) → Holds p now run
    → k < units_in p → is_complete (board_of p f now run) ≡ true
    → HasFate p (said now e (run_turn p (board_of p f now run) End) ∷ run) k
end_fates p f now run e k h below complete =
    end_cases (λ d. HasFate p (said now e d ∷ run) k) (ended_fate p f now run e k h below complete) now
    (board_of p f now run).dispatcher

-- each unit has its fate in the sub-run that a turn ends
ends_fates : (p : Settings) (past : List Happening) (e : Entry) (j : ℕ) → HoldsAfter p past
    → IsTrue (enabled p past e.turn)
    → (happening p past e).ends ≡ true → j < units_in p → HasFate p (sub_run (happening p past e ∷ past)) j
ends_fates p past e j h en ends below = by_run (where_joins p past e h en)
  where
    by_run : IsOfRun p past e ⊎ IsBeforeRuns p past e → HasFate p (sub_run (happening p past e ∷ past)) j
    by_run (inl of) =
        let end = of.does.marks.ends ends in
        subst (λ run. HasFate p run j) (sym of.joins)
        (subst (λ d. HasFate p (said (clock past) e d ∷ of.base) j) (sym end.0)
        (end_fates p (frame_of p past) (clock past) of.base e j of.holds below end.1))
    by_run (inr before) =
        let never : false ≡ true = sym (ap (λ (d : Deed). d.ends) before.idle) ∙ ends in cc

-- each unit has its fate in each sub-run that has ended
pub ended_fates : (p : Settings) (backward : List Entry) → IsLegalBackward p backward
    → All (HaveFates p) (ended_runs (history p backward))
ended_fates p [] legal = All-nil (HaveFates p)
ended_fates p (e ∷ before) legal = by_end (happening p (history p before) e).ends refl (ended_fates p before legal.2)
  where
    past : List Happening
    past = history p before

    by_end : (b : Bool) → (happening p past e).ends ≡ b → All (HaveFates p) (ended_runs past)
        → All (HaveFates p) (if b then sub_run (happening p past e ∷ past) ∷ ended_runs past else ended_runs past)
    by_end true ends earlier = All-cons (HaveFates p) (sub_run (happening p past e ∷ past)) (ended_runs past)
        (λ j inside. ends_fates p past e j (holds p before legal.2) legal.0 ends inside) earlier
    by_end false ends earlier = earlier

-- the newest sub-run of a run that is over has ended: no turn is enabled after that
pub over_ended : (p : Settings) (backward : List Entry) → IsLegalBackward p backward
    → is_over (history p backward) ≡ true
    → Contains (ended_runs (history p backward)) (sub_run (history p backward))
over_ended p [] legal over = cc
over_ended p (e ∷ before) legal over =
    subst (λ b. Contains (if b then sub_run (happening p past e ∷ past) ∷ ended_runs past else ended_runs past)
    (sub_run (happening p past e ∷ past)))
    (sym ends) (0, omega arith, refl)
  where
    past : List Happening
    past = history p before

    not_true : (b : Bool) → not b ≡ true → b ≡ false
    not_true true h = cc
    not_true false h = refl

    first_holds : (a b : Bool) → (a || b) ≡ true → b ≡ false → a ≡ true
    first_holds true b h n = refl
    first_holds false b h n = cc

    going : is_over past ≡ false
    going = not_true (is_over past)
        (first_so (not (is_over past)) (takes_turn p (board p past) e.turn (turn_of_unit e.turn)) legal.0)

    ends : (happening p past e).ends ≡ true
    ends = (does_after p past e (holds p before legal.2) legal.0).marks.finishes
        (first_holds (happening p past e).over (is_over past) over going)

-- so where the run is over each unit has its fate in its newest sub-run
pub fates : (p : Settings) (backward : List Entry) → IsLegalBackward p backward → is_over (history p backward) ≡ true
    → HaveFates p (sub_run (history p backward))
fates p backward legal over =
    All-contains (HaveFates p) (ended_runs (history p backward)) (sub_run (history p backward))
    (ended_fates p backward legal) (over_ended p backward legal over)
