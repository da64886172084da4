-- A whole history shows of a test what its newest sub-run shows: where a further one begins, none is displayed.
use Rattle.std.proofs.Common.{◌≡◌, ◌⊎◌, inl, inr, ℕ, zero, suc, ◌+◌, ◌<◌, ◌==◌, nat_lt, List, [], ◌∷◌, ◌++◌}
use Rattle.std.proofs.Common.{Bool, true, false, ◌||◌, ◌&&◌, not, if◌then◌else◌, Option, Some, None, is_some, is_none}
use Rattle.std.proofs.Common.{append_assoc, refl, ap, sym, subst, ◌∙◌}
use Rattle.std.specs.Cmp.{first_so, second_so}
use Rattle.std.specs.List.{All}
use Rattle.std.proofs.lemmas.List.Elements.{All-head}
use Rattle.run_capture.proofs.Facts.{not_true}
use Rattle.run_events.specs.Cancel.{greater, rank}
use Rattle.run_events.specs.Stats.{total_by}
use Rattle.run_events.specs.declared.cancel.CancelReason.{CancelReason}
use Rattle.run_events.specs.declared.events.ReporterEvent.{ReporterEvent}
use Rattle.run_events.specs.Outcome.{summary}
use Rattle.run_events.specs.Stress.{remaining}
use Rattle.run_events.specs.declared.result.ExecuteStatus.{ExecuteStatus}
use Rattle.run_events.specs.declared.stats.RunStats.{RunStats}
use Rattle.run_events.specs.declared.stress.StressProgress.{StressProgress}
use Rattle.run_events.specs.declared.settings.Settings.{Settings}
use Rattle.run_model.specs.declared.dispatcher_view.DispatcherView.{DispatcherView}
use Rattle.run_model.specs.declared.entry.Entry.{Entry}
use Rattle.run_model.specs.declared.happening.Happening.{Happening}
use Rattle.run_model.specs.Accounts.{News, account_of, finished, is_mismatched}
use Rattle.run_model.specs.Admission.{units_in}
use Rattle.run_model.specs.Attempts.{statuses_of}
use Rattle.run_model.specs.Board.{Deed, board, deed_events}
use Rattle.run_model.specs.Fates.{HasFate, HaveFates, account, retold}
use Rattle.run_model.specs.Journal.{IsLegalBackward, history}
use Rattle.run_model.specs.Story.{deliveries, is_at_retry, lets_go, stopped_at}
use Rattle.run_model.specs.SubRuns.{is_cancelled, stops_after}
use Rattle.run_model.specs.Turns.{deed_on, enabled, ends_as, happening, progress_of, takes_turn, turn_of_unit}
use Rattle.run_model.specs.Words.{clock, ended_runs, events_in, is_on, is_over, reason, stats, sub_run, told}
use Rattle.run_laws.proofs.board.Deeds.{base_of}
use Rattle.run_laws.proofs.board.Kept.{IsBeforeRuns, IsOfRun, holds, where_joins}
use Rattle.run_laws.proofs.board.OnBoard.{board_of, frame_of}
use Rattle.run_laws.proofs.told.Begins.{begins_only}
use Rattle.run_laws.proofs.told.FateLemmas.{ended_fates}
use Rattle.run_laws_display.proofs.CourseLemmas.{shown_after_news}
use Rattle.run_laws_display.proofs.SlowTold.{SplitsFirst, SplitsLater, split_append}
use Rattle.run_laws_display.proofs.WholeLemmas.{account_append}
use Rattle.run_laws.proofs.board.Order.{either_false}

-- whether unit k is shown by what events tell of it
abbrev pub shown_by_told : ℕ → List ReporterEvent → Bool
shown_by_told k es = shown_after_news false (account_of k es)

shown-news : (b : Bool) (t u : List News) → shown_after_news b (t ++ u) ≡ shown_after_news (shown_after_news b t) u
shown-news b [] u = refl
shown-news b (n ∷ t) u = shown-news _ t u

shown-append : (k : ℕ) (es fs : List ReporterEvent)
    → shown_by_told k (es ++ fs) ≡ shown_after_news (shown_by_told k es) (account_of k fs)
shown-append k es fs =
    ap (shown_after_news false) (account_append k es fs) ∙ shown-news false (account_of k es) (account_of k fs)

-- two lists that show the same do so after the same events
shown_more : (k : ℕ) (es fs more : List ReporterEvent) → shown_by_told k es ≡ shown_by_told k fs
    → shown_by_told k (es ++ more) ≡ shown_by_told k (fs ++ more)
shown_more k es fs more same =
    shown-append k es more ∙ ap (λ b. shown_after_news b (account_of k more)) same ∙ sym (shown-append k fs more)

shown_none : (k : ℕ) (es fs : List ReporterEvent) → fs ≡ [] → shown_by_told k (es ++ fs) ≡ shown_by_told k es
shown_none k es fs none = shown-append k es fs ∙ ap (λ fs. shown_after_news (shown_by_told k es) (account_of k fs)) none

-- a unit that wasn't left isn't shown after all that is told of it
fate_hidden : (mm : Bool) (stopped : Option ℕ) (ss : List ExecuteStatus) → is_at_retry stopped ≡ false
    → shown_after_news false (account mm stopped ss) ≡ false
fate_hidden true stopped ss stayed = refl
fate_hidden false (Some zero) ss stayed = refl
fate_hidden false (Some (suc n)) ss stayed = cc
fate_hidden false None ss stayed = shown-news true (retold ss) (finished ss ∷ [])

-- where no cause came, no unit was stopped
calm_before : (why cause : Option CancelReason) → is_some (greater why cause) ≡ false → is_some why ≡ false
calm_before None cause calm = refl
calm_before (Some r) None calm = cc
calm_before (Some r) (Some c) calm = by_rank (nat_lt (rank r) (rank c)) calm
  where
    by_rank : (b : Bool) → is_some (if b then Some c else Some r) ≡ false → true ≡ false
    by_rank true calm = cc
    by_rank false calm = cc

stopped_none : (k : ℕ) (run : List Happening) → is_some (reason run) ≡ false → stopped_at k run ≡ None
stopped_none k [] calm = refl
stopped_none k (x ∷ run) calm =
    rw (stopped_none k run before) (by_part (lets_go k x.part) (is_some (reason run)) before)
  where
    before : is_some (reason run) ≡ false
    before = calm_before (reason run) x.cause calm

    by_part : (go caused : Bool) → caused ≡ false → (if go && caused then Some (deliveries k run) else None) ≡ None
    by_part true caused none = rw none refl
    by_part false caused none = refl

-- parts of what is false
both_off : (ends begins on : Bool) → ends ≡ false → (not ends && (begins || on)) ≡ false → (begins || on) ≡ false
both_off true begins on is off = cc
both_off false begins on is off = off

-- a sub-run that ends while the run goes on has no cause
goes_calm : (last : RunStats) (next : StressProgress) (n : ℕ) → stops_after last next n ≡ false
    → is_some last.cancel_reason ≡ false
goes_calm last next n none =
    let caused : Bool = is_some last.cancel_reason in
    let cancelled : Bool = is_cancelled (summary last) in
    let no_last = (either_false (caused || cancelled || is_none (remaining next)) (n == 4294967295) none).0 in
    (either_false caused cancelled (either_false (caused || cancelled) (is_none (remaining next)) no_last).0).0

calm_end : (p : Settings) (past : List Happening) (e : Entry) (of : IsOfRun p past e)
    → (happening p past e).ends ≡ true → (happening p past e).over ≡ false
    → is_some (reason (happening p past e ∷ of.base)) ≡ false
unfolding total_by
calm_end p past e of ends goes_on =
    by_stress p.stress (of.does.marks.ends ends).0 goes_on
  where
    d : DispatcherView
    d = (board_of p (frame_of p past) (clock past) of.base).dispatcher

    by_stress : (o : _) → deed_on p (board p past) e.turn ≡ ends_as (clock past) d o
        → (deed_on p (board p past) e.turn).over ≡ false
        → is_some (reason (happening p past e ∷ of.base)) ≡ false
    by_stress None same over =
        let never : true ≡ false = sym (ap (λ (d : Deed). d.over) same) ∙ over in cc
    by_stress (Some condition) same over =
        let calm : is_some (reason of.base) ≡ false =
        goes_calm (stats p of.base) (progress_of (clock past) d (d.sub_runs.ended + 1) condition)
        (d.sub_runs.ended + 1) (sym (ap (λ (d : Deed). d.over) same) ∙ over) in
        by_reason (reason of.base) (deed_on p (board p past) e.turn).cause (ap (λ (d : Deed). d.cause) same) calm
      where
        by_reason : (why cause : Option CancelReason) → cause ≡ None → is_some why ≡ false
            → is_some (greater why cause) ≡ false
        by_reason None cause none calm = ap is_some none
        by_reason (Some r) cause none calm = cc

-- a history shows a unit where its newest sub-run does, which doesn't once it has ended, while the run goes on
record IsShown (k : ℕ) (past : List Happening) : Type 0 where
  same : shown_by_told k (told past) ≡ shown_by_told k (told (sub_run past))
  off : is_over past ≡ false → is_on (sub_run past) ≡ false → shown_by_told k (told (sub_run past)) ≡ false

-- a turn comes before the run is over, and one that begins a sub-run while none is on
going : (p : Settings) (past : List Happening) (e : Entry) → enabled p past e.turn ≡ true → is_over past ≡ false
going p past e en =
    not_true (is_over past)
    (first_so (not (is_over past)) (takes_turn p (board p past) e.turn (turn_of_unit e.turn)) en)

begins_off : (p : Settings) (past : List Happening) (e : Entry) → enabled p past e.turn ≡ true
    → (happening p past e).begins ≡ true → is_on (sub_run past) ≡ false
begins_off p past e en begins =
    not_true (is_on (sub_run past)) (first_so (not (is_on (sub_run past))) (not (is_over past))
    (second_so (not (is_over past)) (not (is_on (sub_run past)) && not (is_over past))
    (subst (λ turn. enabled p past turn ≡ true) (begins_only p (board p past) e.turn begins) en)))

-- so it finds shown what its own sub-run showed before it
shown_base : (p : Settings) (past : List Happening) (e : Entry) (k : ℕ) (of : IsOfRun p past e)
    → enabled p past e.turn ≡ true → IsShown k past
    → shown_by_told k (told past) ≡ shown_by_told k (told of.base)
shown_base p past e k of en was =
    was.same ∙ by_begin (happening p past e).begins refl
    ∙ ap (λ run. shown_by_told k (told run)) (sym of.is)
  where
    by_begin : (b : Bool) → (happening p past e).begins ≡ b
        → shown_by_told k (told (sub_run past)) ≡ shown_by_told k (told (base_of b (sub_run past)))
    by_begin true begins = was.off (going p past e en) (begins_off p past e en begins)
    by_begin false begins = refl

module _ (p : Settings) (e : Entry) (before : List Entry) (legal : IsLegalBackward p (e ∷ before)) (k : ℕ)
    (below : k < units_in p) (was : IsShown k (history p before)) where
  abbrev past : List Happening
  past = history p before

  abbrev x : Happening
  x = happening p past e

  -- a sub-run that ends doesn't show it, while the run goes on
  hidden : (of : IsOfRun p past e) → x.ends ≡ true → x.over ≡ false → shown_by_told k (told (x ∷ of.base)) ≡ false
  hidden of ends goes_on =
      ap (shown_after_news false) fate.account
      ∙ fate_hidden (is_mismatched p k) (stopped_at k (x ∷ of.base)) (statuses_of p k (x ∷ of.base))
      (ap is_at_retry (stopped_none k (x ∷ of.base) (calm_end p past e of ends goes_on)))
    where
      ended : All (HaveFates p) (sub_run (x ∷ past) ∷ ended_runs past)
      ended = subst (λ b. All (HaveFates p) (if b then sub_run (x ∷ past) ∷ ended_runs past else ended_runs past)) ends
          (ended_fates p (e ∷ before) legal)

      fate : HasFate p (x ∷ of.base) k
      fate = subst (λ run. HasFate p run k) of.joins
          (All-head (HaveFates p) (sub_run (x ∷ past)) (ended_runs past) ended k below)

  -- nor does one that has ended
  stays_hidden : (of : IsOfRun p past e) → is_over (x ∷ past) ≡ false → is_on (x ∷ of.base) ≡ false
      → shown_by_told k (told (x ∷ of.base)) ≡ false
  stays_hidden of goes_on off = by_end x.ends refl
    where
      still : x.ends ≡ false → shown_by_told k (told (x ∷ of.base)) ≡ false
      still is =
          let calm : (x.begins || is_on of.base) ≡ false = both_off x.ends x.begins (is_on of.base) is off in
          let both = either_false x.begins (is_on of.base) calm in
          let same : of.base ≡ sub_run past = of.is ∙ ap (λ b. base_of b (sub_run past)) both.0 in
          shown_none k (told of.base) (events_in x) (ap deed_events (of.does.marks.still calm))
          ∙ ap (λ run. shown_by_told k (told run)) same
          ∙ was.off (either_false x.over (is_over past) goes_on).1 (sym (ap is_on same) ∙ both.1)

      by_end : (b : Bool) → x.ends ≡ b → shown_by_told k (told (x ∷ of.base)) ≡ false
      by_end true is = hidden of is (either_false x.over (is_over past) goes_on).0
      by_end false is = still is

  -- so each turn keeps that
  shown_next : IsOfRun p past e ⊎ IsBeforeRuns p past e → IsShown k (x ∷ past)
  shown_next (inl of) = record {
    same = shown_more k (told past) (told of.base) (events_in x) (shown_base p past e k of legal.0 was)
        ∙ ap (λ run. shown_by_told k (told run)) (sym of.joins);
    off = λ goes_on off. ap (λ run. shown_by_told k (told run)) of.joins
        ∙ stays_hidden of goes_on (sym (ap is_on of.joins) ∙ off);
  }
  shown_next (inr none) = record {
    same = shown_none k (told past) (events_in x) (ap deed_events none.idle) ∙ was.same
        ∙ ap (λ run. shown_by_told k (told run)) (none.none ∙ sym none.still);
    off = λ goes_on off. ap (λ run. shown_by_told k (told run)) none.still;
  }

shown : (p : Settings) (backward : List Entry) → IsLegalBackward p backward → (k : ℕ) → k < units_in p
    → IsShown k (history p backward)
shown p [] legal k below = record { same = refl; off = λ goes_on off. refl }
shown p (e ∷ before) legal k below =
    shown_next p e before legal k below (shown p before legal.2 k below)
    (where_joins p (history p before) e (holds p before legal.2) legal.0)

pub shown_newest : (p : Settings) (backward : List Entry) → IsLegalBackward p backward → (k : ℕ) → k < units_in p
    → shown_by_told k (told (history p backward)) ≡ shown_by_told k (told (sub_run (history p backward)))
shown_newest p backward legal k below = (shown p backward legal k below).same

-- an event is told in a sub-run whose events before it show what all events before it do
pub record IsInSubRun (p : Settings) (before : List ReporterEvent) (event : ReporterEvent) : Type 0 where
  pub backward : List Entry
  pub legal : IsLegalBackward p backward
  pub earlier : List ReporterEvent
  pub later : List ReporterEvent
  pub is : told (sub_run (history p backward)) ≡ earlier ++ event ∷ later
  pub same : (k : ℕ) → k < units_in p → shown_by_told k before ≡ shown_by_told k earlier

pub in_sub_run : (p : Settings) (backward : List Entry) → IsLegalBackward p backward
    → (before after : List ReporterEvent) (event : ReporterEvent)
    → told (history p backward) ≡ before ++ event ∷ after → IsInSubRun p before event
in_sub_run p [] legal [] after event is = cc
in_sub_run p [] legal (b ∷ before) after event is = cc
in_sub_run p (e ∷ entries) legal before after event is =
    by_part (split_append (told past) (events_in x) before after event is)
    (λ rest earlier. in_sub_run p entries legal.2 before rest event earlier)
  where
    past : List Happening
    past = history p entries

    x : Happening
    x = happening p past e

    newest : (more : List ReporterEvent) → before ≡ told past ++ more → events_in x ≡ more ++ event ∷ after
        → IsOfRun p past e ⊎ IsBeforeRuns p past e → IsInSubRun p before event
    newest more earlier now (inr none) = absurd (never more (sym now ∙ ap deed_events none.idle))
      where
        never : (more : List ReporterEvent) → more ++ event ∷ after ≡ [] → ⊥
        never [] is = cc
        never (m ∷ more) is = cc
    newest more earlier now (inl of) = record {
      backward = e ∷ entries;
      legal = legal;
      earlier = told of.base ++ more;
      later = after;
      is = ap told of.joins ∙ ap (λ es. told of.base ++ es) now
          ∙ sym (append_assoc (told of.base) more (event ∷ after));
      same = λ k below. ap (shown_by_told k) earlier
          ∙ shown_more k (told past) (told of.base) more
          (shown_base p past e k of legal.0 (shown p entries legal.2 k below));
    }

    by_part : SplitsFirst (told past) before event ⊎ SplitsLater (told past) (events_in x) before after event
        → ((rest : List ReporterEvent) → told past ≡ before ++ event ∷ rest → IsInSubRun p before event)
        → IsInSubRun p before event
    by_part (inl (rest, earlier)) sooner = sooner rest earlier
    by_part (inr (more, (earlier, now))) sooner =
        newest more earlier now (where_joins p past e (holds p entries legal.2) legal.0)
