-- What each event says of the run is what was told in it.
use Rattle.std.proofs.Common.{◌≡◌, ◌⊎◌, inl, inr, List, [], ◌∷◌, ◌++◌, true, Option, Some, None, option_to_list}
use Rattle.std.proofs.Common.{reverse, ap, sym, subst, ◌∙◌}
use Rattle.std.specs.Prelude.{IfSome}
use Rattle.std.specs.List.{All}
use Rattle.std.proofs.lemmas.List.{reverse-append}
use Rattle.std.proofs.lemmas.List.Elements.{All-nil, All-cons, All-append}
use Rattle.run_events.specs.declared.settings.Settings.{Settings}
use Rattle.run_events.specs.declared.cancel.CancelReason.{CancelReason}
use Rattle.run_events.specs.declared.events.ReporterEvent.{ReporterEvent}
use Rattle.run_model.specs.declared.dispatcher_view.Tally.{Tally}
use Rattle.run_model.specs.declared.entry.Entry.{Entry}
use Rattle.run_model.specs.declared.happening.Happening.{Happening}
use Rattle.run_model.specs.Words.{clock, elapsed, events_in, is_over, reason, sub_run, told, tally}
use Rattle.run_model.specs.Dispatch.{having_told, moment_by}
use Rattle.run_model.specs.Board.{Board, Deed, board, with_cause}
use Rattle.run_model.specs.Turns.{enabled, deed_on, happening}
use Rattle.run_model.specs.Journal.{history, past_of, IsLegal, IsLegalBackward}
use Rattle.run_laws.proofs.board.Tallies.{counts, counts-more, tally-cons}
use Rattle.run_laws.proofs.told.Cancels.{IsAfter, cancel_for, cancel_tallied}
use Rattle.run_laws.proofs.board.DeedFits.{Does, cancel_told}
use Rattle.run_clock.specs.Stopwatch.{active_by}
use Rattle.run_model.specs.Rounds.{run_watch}
use Rattle.run_laws_events.proofs.ActiveLemmas.{active_is}
use Rattle.run_laws.proofs.board.Kept.{does_after, holds}
use Rattle.run_laws_events.specs.Moments.{SaysMoment}
use Rattle.run_laws_events.specs.Counts.{SaysCounts, TellsCounts}
use Rattle.run_laws_events.proofs.OwnEvents.{SaysTally, TellsBoard, own_tells}
use Rattle.run_laws_events.proofs.CauseEvents.{SaysAt, cause_says}
use Rattle.run_laws.proofs.board.OnBoard.{frame_of}
use Rattle.std.specs.Prelude.{⊤}
use Rattle.std.proofs.Common.{◌==◌, Bool, false, option_map, refl}
use Rattle.run_commands.specs.declared.stress_count.StressCondition.{StressCondition}
use Rattle.run_events.specs.declared.turn.Turn.{Turn}
use Rattle.run_events.specs.declared.turn.Turn.TheVariants.{Begin}
use Rattle.run_model.specs.declared.dispatcher_view.DispatcherView.{DispatcherView}
use Rattle.run_model.specs.Board.{dispatcher_of}
use Rattle.run_model.specs.Turns.{begins_as, sub_run_started}
use Rattle.run_laws.proofs.board.Deeds.{base_of}
use Rattle.run_laws_events.specs.Counts.{running_said, scripts_said, stats_said}
use Rattle.run_laws_events.specs.RunStart.{is_begin}
use Rattle.run_laws_events.proofs.BeginLemmas.{begins-is}
use Rattle.run_laws_events.proofs.CauseEvents.{begin_says, end_says}
use Rattle.run_laws.proofs.board.OnBoard.{board_of}

-- what holds of a value in an option
if_some_map : {X : Type 0} (P Q : X → Type 0) (o : Option X) → ((x : X) → P x → Q x) → IfSome o P → IfSome o Q
if_some_map P Q None h it = tt
if_some_map P Q (Some x) h it = h x it

all_if : {X : Type 0} (P : X → Type 0) (o : Option X) → IfSome o P → All P (option_to_list o)
all_if P None h = All-nil P
all_if P (Some x) h = All-cons P x [] h (All-nil P)

-- what an enabled turn tells after a legal journal
record TellsAfter (p : Settings) (past : List Happening) (x : Happening) : Type 0 where
  own : TellsBoard (board p past) x.told
  after : IfSome x.after (SaysAt (moment_by (clock past) (run_watch past))
      (with_cause x.cause (having_told (tally p (sub_run past)) x.told)))

tells_after : (p : Settings) (before : List Entry) (e : Entry) → IsLegalBackward p before
    → enabled p (history p before) e.turn ≡ true
    → TellsAfter p (history p before) (happening p (history p before) e)
tells_after p before e legal en = record {
  own = own_tells p (board p past) e.turn en;
  after = by_begin d.begins d.ends refl refl;
}
  where
    past : List Happening
    past = history p before

    d : Deed
    d = deed_on p (board p past) e.turn

    t : Tally
    t = with_cause d.cause (having_told (tally p (sub_run past)) d.told)

    does : Does p (frame_of p past) (clock past) (base_of d.begins (sub_run past)) d
    does = does_after p past e (holds p before legal) en

    Says : Option ReporterEvent → Type 0
    Says o = IfSome o (SaysAt (moment_by (clock past) (run_watch past)) t)

    by_name : (turn : Turn) → is_begin turn ≡ true → Says (deed_on p (board p past) turn).after
    by_name Begin is = begin_says t (clock past) (dispatcher_of p past)
    by_name turn is = cc

    by_begin : (begins ends : Bool) → d.begins ≡ begins → d.ends ≡ ends → Says d.after
    by_begin true ends is ended = by_name e.turn (sym (begins-is p (board p past) e.turn) ∙ is)
    by_begin false true is ended =
        subst Says (ap (λ (d : Deed). d.after) (sym (does.marks.ends ended).0)) (end_says t (clock past)
        (board_of p (frame_of p past) (clock past) (base_of d.begins (sub_run past))).dispatcher)
    by_begin false false is ended =
        let here : Does p (frame_of p past) (clock past) (sub_run past) d =
        subst (λ b. Does p (frame_of p past) (clock past) (base_of b (sub_run past)) d) is does in
        subst Says (sym (here.marks.cancel (rw (is, ended) refl)))
        (cause_says (moment_by (clock past) (run_watch past)) (having_told (tally p (sub_run past)) d.told) d.cause)

-- a legal journal of which this is the last turn
backward_of : (p : Settings) (journal : List Entry) (e : Entry) → IsLegal p (journal ++ e ∷ [])
    → IsLegalBackward p (e ∷ reverse journal)
backward_of p journal e legal = subst (IsLegalBackward p) (reverse-append journal (e ∷ [])) legal

-- so each event says its moment
pub moments : (p : Settings) (journal : List Entry) (e : Entry) → IsLegal p (journal ++ e ∷ [])
    → All (SaysMoment (clock (past_of p journal)) (elapsed (past_of p journal)))
    (events_in (happening p (past_of p journal) e))
moments p journal e legal =
    let backward = backward_of p journal e legal in
    let it = tells_after p (reverse journal) e backward.2 backward.0 in
    let past : List Happening = past_of p journal in
    let x : Happening = happening p past e in
    let says : ReporterEvent → Type 0 = SaysMoment (clock past) (active_by (run_watch past) (clock past)) in
    subst (λ active. All (SaysMoment (clock past) active) (events_in x)) (active_is p (reverse journal))
    (All-append says (option_to_list x.told) (option_to_list x.after) (all_if says x.told it.own.moment)
    (all_if says x.after (if_some_map _ says x.after (λ e says. says.moment) it.after)))

-- what the dispatcher counts is what was told
says_counts : (p : Settings) (why : Option CancelReason) (events : List ReporterEvent) (o : Option ReporterEvent)
    → IfSome o (SaysTally (counts p why events)) → IfSome o (SaysCounts p why events)
says_counts p why events o = if_some_map (SaysTally (counts p why events)) (SaysCounts p why events) o
    (λ e it. record { running = it.running; scripts = it.scripts; stats = it.stats })

-- a begin tells no counts
abbrev IsBegun : Option ReporterEvent → Type 0
IsBegun None = ⊤
IsBegun (Some event) = (running_said event ≡ None) × (scripts_said event ≡ None) × (stats_said event ≡ None)

begun_silent : (p : Settings) (past : List Happening) (turn : Turn) → is_begin turn ≡ true
    → IsBegun (deed_on p (board p past) turn).told × IsBegun (deed_on p (board p past) turn).after
begun_silent p past Begin is = by_first ((dispatcher_of p past).sub_runs.ended == 0)
  where
    d : DispatcherView
    d = dispatcher_of p past

    starts : (o : Option StressCondition) → IsBegun (option_map (sub_run_started (clock past) d) o)
    starts None = tt
    starts (Some condition) = (refl, refl, refl)

    by_first : (first : Bool)
        → IsBegun (begins_as (clock past) d first).told × IsBegun (begins_as (clock past) d first).after
    by_first true = ((refl, refl, refl), starts p.stress)
    by_first false = (starts p.stress, tt)
begun_silent p past turn is = cc

-- and the counts up to and with it
pub counts_told : (p : Settings) (journal : List Entry) (e : Entry) → IsLegal p (journal ++ e ∷ [])
    → TellsCounts p (sub_run (past_of p journal)) (happening p (past_of p journal) e)
counts_told p journal e legal = by_begin x.begins refl
  where
    backward : IsLegalBackward p (e ∷ reverse journal)
    backward = backward_of p journal e legal

    past : List Happening
    past = past_of p journal

    run : List Happening
    run = sub_run past

    x : Happening
    x = happening p past e

    does : Does p (frame_of p past) (clock past) (base_of x.begins run) (deed_on p (board p past) e.turn)
    does = does_after p past e (holds p (reverse journal) backward.2) backward.0

    it : TellsAfter p past x
    it = tells_after p (reverse journal) e backward.2 backward.0

    -- a begin and what comes after it say no counts
    silent : (o : Option ReporterEvent) → IsBegun o → (why : Option CancelReason) (events : List ReporterEvent)
        → IfSome o (SaysCounts p why events)
    silent None h why events = tt
    silent (Some event) h why events =
        record { running = rw h.0 tt; scripts = rw h.1 tt; stats = rw h.2 tt }

    by_begin : (b : Bool) → x.begins ≡ b → TellsCounts p run x
    by_begin true is =
        let begun = begun_silent p past e.turn (sym (begins-is p (board p past) e.turn) ∙ is) in
        record { own = silent x.told begun.0 _ _; cause = silent x.after begun.1 _ _ }
    by_begin false is = record {
      own = says_counts p (reason run) (told run ++ option_to_list x.told) x.told
          (subst (λ t. IfSome x.told (SaysTally t)) (sym (counts-more p (reason run) x.told (told run) here.tells))
          it.own.counts);
      cause = says_counts p (reason (x ∷ run)) (told (x ∷ run)) x.after
          (subst (λ t. IfSome x.after (SaysTally t)) (sym same)
          (if_some_map (SaysAt (moment_by (clock past) (run_watch past)) t) (SaysTally t)
          x.after (λ e says. says.counts)
          it.after));
    }
      where
        here : Does p (frame_of p past) (clock past) run (deed_on p (board p past) e.turn)
        here = subst (λ b. Does p (frame_of p past) (clock past) (base_of b run)
            (deed_on p (board p past) e.turn)) is does

        t : Tally
        t = with_cause x.cause (having_told (tally p run) x.told)

        same : tally p (x ∷ run) ≡ t
        same = tally-cons p (frame_of p past) (clock past) run e (deed_on p (board p past) e.turn) here
            ∙ ap (with_cause x.cause) (cancel_tallied x.after (having_told (tally p run) x.told)
            (cancel_told p (frame_of p past) (clock past) run (deed_on p (board p past) e.turn) here.marks))
