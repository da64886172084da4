-- What each enabled turn tells as a cause.
use Rattle.std.proofs.Common.{◌≡◌, ◌||◌, ℕ, ◌++◌, List, [], ◌∷◌, Bool, true, false, if◌then◌else◌, Option, Some, None}
use Rattle.std.proofs.Common.{option_map, is_none, is_some, reverse, refl, ap, sym, subst, ◌∙◌, option_and_then}
use Rattle.std.specs.Prelude.{IfSome}
use Rattle.std.proofs.lemmas.List.{reverse-append}
use Rattle.run_events.specs.declared.ask.Ask.{Ask}
use Rattle.run_events.specs.declared.ask.Ask.TheVariants.{Start as StartAsked, Signal as SignalAsked, StopSelf}
use Rattle.run_events.specs.declared.settings.Settings.{Settings}
use Rattle.run_events.specs.declared.turn.Turn.{Turn}
use Rattle.run_events.specs.declared.message.Message.{Message}
use Rattle.run_events.specs.declared.message.Message.TheVariants.{ScriptStart as ScriptStarts, ScriptSlow, ScriptFinish}
use Rattle.run_events.specs.declared.message.Message.TheVariants.{Start, Slow, AttemptFailed, Retry, Skip, Finish}
use Rattle.run_events.specs.declared.message.TestStart.{TestStart}
use Rattle.run_events.specs.declared.message.TestRetry.{TestRetry}
use Rattle.run_events.specs.declared.cancel.CancelReason.{CancelReason}
use Rattle.run_events.specs.declared.cancel.CancelReason.TheVariants.{SetupScriptFailure, TestFailure, ReportError}
use Rattle.run_events.specs.declared.cancel.CancelReason.TheVariants.{GlobalTimeout, TestFailureImmediate, Signal}
use Rattle.run_events.specs.declared.cancel.CancelReason.TheVariants.{Interrupt, SecondSignal}
use Rattle.run_events.specs.declared.events.ReporterEvent.{ReporterEvent}
use Rattle.run_model.specs.declared.dispatcher_view.Tally.{Tally}
use Rattle.run_model.specs.declared.entry.Entry.{Entry}
use Rattle.run_model.specs.declared.happening.Happening.{Happening}
use Rattle.run_model.specs.declared.happening.UnitPart.{UnitPart}
use Rattle.run_model.specs.declared.happening.UnitPart.TheVariants.{Joins, Acts}
use Rattle.run_model.specs.declared.unit_turn.UnitTurn.{UnitTurn}
use Rattle.run_model.specs.declared.unit_turn.UnitTurn.TheVariants.{Answered}
use Rattle.run_model.specs.declared.unit_view.UnitView.{UnitView}
use Rattle.run_model.specs.Story.{begins_attempt}
use Rattle.run_model.specs.Unit.{at_moment, row, takes}
use Rattle.run_model.specs.Words.{is_over, clock, sub_run, queue, reason, told, units, tally}
use Rattle.run_model.specs.Admission.{Newcomer, newcomer}
use Rattle.run_model.specs.Dispatch.{Moment, moment_by, heard_by, event, having_told, with_start, may_go, started_event}
use Rattle.run_model.specs.Dispatch.{retried_event}
use Rattle.run_model.specs.Cancel.{Cause, cause_of, is_above, cancelled_for, cancel_event, caused}
use Rattle.run_model.specs.Board.{Board, Deed, board}
use Rattle.run_model.specs.Turns.{enabled, admission, event_of, live_in, oldest_of, tally_with, delivered_as, delivery}
use Rattle.run_model.specs.Turns.{nothing_done, done_by, deed_on, happening}
use Rattle.run_model.specs.Journal.{history, past_of, IsLegal, IsLegalBackward}
use Rattle.run_laws.specs.Cancels.{reason_in, begins_in, reason_told, kills, tells_start, rises, is_second, asks_start}
use Rattle.run_laws.specs.Cancels.{IsCancelled}
use Rattle.run_laws.proofs.board.ByTurn.{by_turn}
use Rattle.run_laws.proofs.board.OnBoard.{moment_in}
use Rattle.run_laws.proofs.board.Facts.{may_go-is, stats-reason}
use Rattle.run_events.specs.declared.message.ScriptStart.{ScriptStart}
use Rattle.run_events.specs.declared.events.ReporterEvent.TheVariants.{Tick, Test}
use Rattle.run_events.specs.declared.events.TestEventKind.{TestEventKind}
use Rattle.run_events.specs.declared.events.TestEventKind.TheVariants.{SetupScriptStarted, RunPaused, RunContinued}
use Rattle.run_events.specs.declared.events.TestEventKind.TheVariants.{InfoStarted, InfoResponse as InfoAnswer}
use Rattle.run_events.specs.declared.events.TestEventKind.TheVariants.{InfoFinished, InputEnter}
use Rattle.run_events.specs.Hearing.{heard_key}
use Rattle.run_laws.proofs.told.Cancels.{cancel_for}
use Rattle.run_laws.proofs.told.CauseLemmas.{cause_is}
use Rattle.run_laws.proofs.told.Asides.{IsAside, IsAsideKind, IsAsideEvent, by_signal, key_aside, tick_aside}
use Rattle.run_laws.proofs.told.Asides.{stop_aside, answer_aside, inform_aside}
use Rattle.run_laws.proofs.board.DeedFits.{Does, PartFits, asked_by}
use Rattle.run_laws.proofs.units.OpenRows.{IsNoStart}
use Rattle.run_laws.proofs.units.Rows.{row_starts_none, takes_moment}
use Rattle.run_laws.proofs.board.Tallies.{counts-more}
use Rattle.run_laws.proofs.board.Kept.{HoldsAfter, does_after, holds}
use Rattle.run_laws.proofs.board.OnBoard.{Frame}
use Rattle.run_laws.proofs.board.OnBoard.{index_in}
use Rattle.run_laws.proofs.board.OnBoard.{frame_of}
use Rattle.run_laws.proofs.board.Deeds.{base_of}
use Rattle.run_events.specs.declared.events.TestEventKind.TheVariants.{StressSubRunStarted}
use Rattle.run_events.specs.declared.events.TestEventKind.TheVariants.{RunFinished}
use Rattle.run_model.specs.Turns.{index_of}
use Rattle.run_laws.proofs.told.Bounds.{IsBoundAfter}
use Rattle.run_laws.proofs.told.Bounds.{IsBound, IsBoundKind, IsBoundAfterKind, begin_cases, end_cases}
use Rattle.run_events.specs.declared.events.TestEventKind.TheVariants.{RunStarted, StressSubRunFinished}

-- a deed's own event is no cancel event, and a start only where no cause came
abbrev TellsOwn : List Happening → Option ReporterEvent → Type 0
TellsOwn run o =
    IfSome o (λ event. reason_told event ≡ None) × IfSome o (λ event. tells_start event ≡ true → reason run ≡ None)

caused_own : (run : List Happening) (now : Moment) (t : Tally) (o : Option Cause) (d : Deed) → TellsOwn run d.told
    → TellsOwn run (caused now t o d).told
caused_own run now t None d own = own
caused_own run now t (Some cause) d own = own

admits_own : (run : List Happening) (o : Option Newcomer) → TellsOwn run (admission o).told
admits_own run None = (tt, tt)
admits_own run (Some new) = (tt, tt)

unit_own : (run : List Happening) (now k : ℕ) (v : Option UnitView) (d : Deed) → d.told ≡ None → TellsOwn run d.told
unit_own run now k v d none = rw none (tt, tt)

no_reason : (why : Option CancelReason) → is_none why ≡ true → why ≡ None
no_reason None e = refl
no_reason (Some r) e = cc

start_own : (p : Settings) (now : Moment) (run : List Happening) (start : TestStart) (go : Bool)
    → go ≡ is_none (reason run)
    → TellsOwn run (option_map (event now) (if go then Some (started_event start (with_start (tally p run))) else None))
start_own p now run start true goes = (refl, λ e. no_reason (reason run) (sym goes))
start_own p now run start false goes = (tt, tt)

script_own : (now : Moment) (run : List Happening) (start : ScriptStart) (go : Bool) → go ≡ is_none (reason run)
    → TellsOwn run (option_map (event now) (if go then Some (SetupScriptStarted start) else None))
script_own now run start true goes = (refl, λ e. no_reason (reason run) (sym goes))
script_own now run start false goes = (tt, tt)

retry_own : (p : Settings) (now : Moment) (run : List Happening) (retry : TestRetry) (go : Bool)
    → go ≡ is_none (reason run)
    → TellsOwn run (option_map (event now) (if go then Some (retried_event retry (tally p run)) else None))
retry_own p now run retry true goes = (refl, λ e. no_reason (reason run) (sym goes))
retry_own p now run retry false goes = (tt, tt)

delivers_own : (p : Settings) (past : List Happening) (q : List Message)
    → TellsOwn (sub_run past) (delivery (board p past) q).told
delivers_own p past [] = (tt, tt)
delivers_own p past (Start start ∷ rest) =
    start_own p _ (sub_run past) start (may_go (tally p (sub_run past))) (may_go-is p (sub_run past))
delivers_own p past (ScriptStarts start ∷ rest) =
    script_own _ (sub_run past) start (may_go (tally p (sub_run past))) (may_go-is p (sub_run past))
delivers_own p past (ScriptSlow slow ∷ rest) = (refl, λ e. cc)
delivers_own p past (ScriptFinish finish ∷ rest) =
    let b : Board = board p past in
    let tells : Option ReporterEvent = event_of b (ScriptFinish finish) in
    caused_own (sub_run past) (moment_by b.clock b.dispatcher.watch) (tally_with b tells)
    (cause_of b.dispatcher.rules (tally_with b tells) (ScriptFinish finish))
    (delivered_as b (ScriptFinish finish) nothing_done) (refl, λ e. cc)
delivers_own p past (Retry retry ∷ rest) =
    retry_own p _ (sub_run past) retry (may_go (tally p (sub_run past))) (may_go-is p (sub_run past))
delivers_own p past (AttemptFailed failure ∷ rest) = (refl, λ e. cc)
delivers_own p past (Skip skip ∷ rest) = (refl, λ e. cc)
delivers_own p past (Slow slow ∷ rest) = (refl, λ e. cc)
delivers_own p past (Finish finish ∷ rest) =
    let b : Board = board p past in
    let tells : Option ReporterEvent = event_of b (Finish finish) in
    caused_own (sub_run past) (moment_by b.clock b.dispatcher.watch) (tally_with b tells)
    (cause_of b.dispatcher.rules (tally_with b tells) (Finish finish))
    (delivered_as b (Finish finish) nothing_done) (refl, λ e. cc)

aside_own : (run : List Happening) (d : Deed) → IsAside d → TellsOwn run d.told
aside_own run d aside = by_told d.told aside.told
  where
    by_kind : (kind : TestEventKind) → IsAsideKind kind → (reason_in kind ≡ None) × (begins_in kind ≡ false)
    by_kind (RunPaused event) h = (refl, refl)
    by_kind (RunContinued event) h = (refl, refl)
    by_kind (InfoStarted event) h = (refl, refl)
    by_kind (InfoAnswer event) h = (refl, refl)
    by_kind (InfoFinished missing) h = (refl, refl)
    by_kind (InputEnter event) h = (refl, refl)
    by_kind kind h = absurd h

    by_told : (o : Option ReporterEvent) → IfSome o IsAsideEvent → TellsOwn run o
    by_told None h = (tt, tt)
    by_told (Some Tick) h = (refl, λ e. cc)
    by_told (Some (Test event)) h =
        let it = by_kind event.kind h in
        (it.0, λ e. let never : false ≡ true = sym it.1 ∙ e in cc)

own : (p : Settings) (past : List Happening) (turn : Turn)
    → TellsOwn (sub_run past) (deed_on p (board p past) turn).told
own p past turn = by_turn (λ turn named. TellsOwn run (done_by p b turn named).told)
    (record {
      begin = begin_cases (λ d. TellsOwn run d.told) (λ told after own later. bound_own told own)
          (clock past) b.dispatcher;
      admit = admits_own run (newcomer p (index_of b.dispatcher) (units p run));
      deliver = delivers_own p past (queue run);
      named = λ turn k to other. (tt, tt);
      clock = λ ns. (tt, tt);
      signal = λ signal. by_signal (λ d. TellsOwn run d.told) (clock past) (live_in (units p run)) b.dispatcher signal
          (heard_by p.plan.hearing signal) (tt, tt) (aside_own run);
      global_due = (tt, tt);
      report_cancel = (tt, tt);
      end = end_cases (λ d. TellsOwn run d.told) (λ told after over own later. bound_own told own)
          (clock past) b.dispatcher;
      key = λ key. aside_own run _ (key_aside (clock past) (live_in (units p run)) b.dispatcher
          (heard_key p.plan.hearing.input key));
      tick = aside_own run _ tick_aside;
      stop_wait_due = aside_own run _ stop_aside;
      answer = aside_own run _ (answer_aside b (oldest_of b.answers));
      info_due = aside_own run _ (inform_aside (clock past) b.dispatcher);
    })
    turn
  where
    run : List Happening
    run = sub_run past

    bound_own : (o : Option ReporterEvent) → IsBound o → TellsOwn run o
    bound_own None h = (tt, tt)
    bound_own (Some Tick) h = absurd h
    bound_own (Some (Test event)) h = by_kind event.kind h
      where
        by_kind : (kind : TestEventKind) → IsBoundKind kind → TellsOwn run (Some (Test (record event { kind = kind })))
        by_kind (RunStarted s) h = (refl, λ e. cc)
        by_kind (StressSubRunStarted s) h = (refl, λ e. cc)
        by_kind (StressSubRunFinished s) h = (refl, λ e. cc)
        by_kind (RunFinished s) h = (refl, λ e. cc)
        by_kind kind h = absurd h

    b : Board
    b = board p past

-- a start is asked only where no cause came
abbrev AsksFirst : List Happening → Option Ask → Type 0
AsksFirst run o = IfSome o (λ ask. asks_start ask ≡ true → reason run ≡ None)

no_start : (run : List Happening) (o : Option Ask) → IsNoStart o → AsksFirst run o
no_start run None none = tt
no_start run (Some (StartAsked ask)) none = absurd none
no_start run (Some (SignalAsked ask)) none = λ e. cc
no_start run (Some StopSelf) none = λ e. cc

asks_first : (now : ℕ) (run : List Happening) (p : Settings) (part : Option UnitPart) → PartFits p now run part
    → AsksFirst run (asked_by now run part)
asks_first now run p None fits = tt
asks_first now run p (Some (Joins first)) fits = tt
asks_first now run p (Some (Acts j turn)) taken = rw taken.is (by_turn_of turn taken.takes taken.answers)
  where
    u : UnitView
    u = taken.unit

    any_ask : reason run ≡ None → (o : Option Ask) → AsksFirst run o
    any_ask none None = tt
    any_ask none (Some ask) = λ e. none

    others : (turn : UnitTurn) → takes now u turn ≡ true → begins_attempt turn ≡ false
        → AsksFirst run (row now turn u).asked
    others turn en none = no_start run (row now turn u).asked
        (row_starts_none now u.phase turn (at_moment now u) refl (takes_moment now u.phase u turn en) none)

    by_turn_of : (turn : UnitTurn) → takes now u turn ≡ true
        → ((go : Bool) → turn ≡ Answered go → go ≡ is_none (reason run))
        → AsksFirst run (row now turn u).asked
    by_turn_of (Answered true) en answers =
        any_ask (no_reason (reason run) (sym (answers true refl))) (row now (Answered true) u).asked
    by_turn_of (Answered false) en answers = others (Answered false) en refl
    by_turn_of turn en answers = others turn en refl

-- the event of a cause has its reason, and is that of a kill for a second signal
event_reason : (now : Moment) (r : CancelReason) (t : Tally)
    → reason_told (event now (cancel_event r (cancelled_for r t))) ≡ Some r
event_reason now SetupScriptFailure t = refl
event_reason now TestFailure t = refl
event_reason now ReportError t = refl
event_reason now GlobalTimeout t = refl
event_reason now TestFailureImmediate t = refl
event_reason now Signal t = refl
event_reason now Interrupt t = refl
event_reason now SecondSignal t = refl

event_kills : (now : Moment) (r : CancelReason) (t : Tally)
    → kills (event now (cancel_event r (cancelled_for r t))) ≡ is_second (Some r)
event_kills now SetupScriptFailure t = refl
event_kills now TestFailure t = refl
event_kills now ReportError t = refl
event_kills now GlobalTimeout t = refl
event_kills now TestFailureImmediate t = refl
event_kills now Signal t = refl
event_kills now Interrupt t = refl
event_kills now SecondSignal t = refl

-- a cause rises where its reason is above
pub rises-is : (before : Option CancelReason) (r : CancelReason) → rises before (Some r) ≡ is_above before r
rises-is None r = refl
rises-is (Some before) r = refl

-- what a cause tells by counts with this reason
record TellsCause (why cause : Option CancelReason) (o : Option ReporterEvent) : Type 0 where
  exactly : is_some (option_and_then reason_told o) ≡ rises why cause
  with_reason : IfSome (option_and_then reason_told o) (λ reason. Some reason ≡ cause)
  killing : IfSome o (λ event. kills event ≡ is_second cause)

tells_cause : (now : Moment) (t : Tally) (cause : Option CancelReason)
    → TellsCause t.stats.cancel_reason cause (cancel_for now t cause)
tells_cause now t None = record { exactly = refl; with_reason = tt; killing = tt }
tells_cause now t (Some r) = by_rank (is_above t.stats.cancel_reason r) refl
  where
    by_rank : (b : Bool) → is_above t.stats.cancel_reason r ≡ b
        → TellsCause t.stats.cancel_reason (Some r)
        (if b then Some (event now (cancel_event r (cancelled_for r t))) else None)
    by_rank true e = record {
      exactly = ap is_some (event_reason now r t) ∙ sym (rises-is t.stats.cancel_reason r ∙ e);
      with_reason = subst (λ o. IfSome o (λ reason. Some reason ≡ Some r)) (sym (event_reason now r t)) refl;
      killing = event_kills now r t;
    }
    by_rank false e = record {
      exactly = sym (rises-is t.stats.cancel_reason r ∙ e);
      with_reason = tt;
      killing = tt;
    }

-- the counts after a deed's own event have the reason of those before
pub reason_kept : (p : Settings) (f : Frame) (now : ℕ) (run : List Happening) (d : Deed) → Does p f now run d
    → (having_told (tally p run) d.told).stats.cancel_reason ≡ reason run
reason_kept p f now run d does =
    ap (λ (t : Tally). t.stats.cancel_reason) (sym (counts-more p (reason run) d.told (told run) does.tells))
    ∙ stats-reason p (reason run) _ _

-- so each enabled turn after a history that holds
pub cancelled_after : (p : Settings) (past : List Happening) (e : Entry) → HoldsAfter p past
    → enabled p past e.turn ≡ true → IsCancelled p (sub_run past) (happening p past e)
cancelled_after p past e h en = record {
  cause = cause_is p past e.turn;
  exactly = told_cause.exactly;
  with_reason = told_cause.with_reason;
  kills = told_cause.killing;
  own = tells.0;
  starts = tells.1;
  asks = asks_by x.begins refl;
}
  where
    run : List Happening
    run = sub_run past

    x : Happening
    x = happening p past e

    d : Deed
    d = deed_on p (board p past) e.turn

    does : Does p (frame_of p past) (clock past) (base_of d.begins run) d
    does = does_after p past e h en

    here : d.begins ≡ false → Does p (frame_of p past) (clock past) run d
    here is = subst (λ b. Does p (frame_of p past) (clock past) (base_of b run) d) is does

    asks_so : PartFits p (clock past) run d.part → (b : Bool)
        → AsksFirst run (if b then Some StopSelf else asked_by (clock past) run d.part)
    asks_so fits true = λ e. cc
    asks_so fits false = asks_first (clock past) run p d.part fits

    asks_by : (b : Bool) → d.begins ≡ b → AsksFirst run d.asked
    asks_by true is = subst (AsksFirst run) (sym (does.marks.begins is).1.asked) tt
    asks_by false is = subst (AsksFirst run) (sym (here is).asks) (asks_so (here is).part d.stops)

    bound_tells : (o : Option ReporterEvent) → IsBoundAfter o → d.cause ≡ None → TellsCause (reason run) d.cause o
    bound_tells None bound none = rw none (record { exactly = refl; with_reason = tt; killing = tt })
    bound_tells (Some Tick) bound none = absurd bound
    bound_tells (Some (Test event)) bound none = by_kind event.kind bound
      where
        by_kind : (kind : TestEventKind) → IsBoundAfterKind kind
            → TellsCause (reason run) d.cause (Some (Test (record event { kind = kind })))
        by_kind (StressSubRunStarted s) bound = rw none (record { exactly = refl; with_reason = tt; killing = refl })
        by_kind (RunFinished s) bound = rw none (record { exactly = refl; with_reason = tt; killing = refl })
        by_kind kind bound = absurd bound

    first_false : (a b : Bool) → (a || b) ≡ false → a ≡ false
    first_false false b is = refl
    first_false true b is = cc

    told_by : (b : Bool) → (d.begins || d.ends) ≡ b → TellsCause (reason run) d.cause d.after
    told_by true is = let bounds = does.marks.bounds is in bound_tells d.after bounds.1 bounds.2
    told_by false is =
        let at = here (first_false d.begins d.ends is) in
        subst (λ why. TellsCause why d.cause d.after) (reason_kept p (frame_of p past) (clock past) run d at)
        (subst (TellsCause (having_told (tally p run) d.told).stats.cancel_reason d.cause) (sym (at.marks.cancel is))
        (tells_cause (moment_in (clock past) (frame_of p past)) (having_told (tally p run) d.told) d.cause))

    told_cause : TellsCause (reason run) d.cause d.after
    told_cause = told_by (d.begins || d.ends) refl

    tells : TellsOwn run d.told
    tells = own p past e.turn

pub cancels : (p : Settings) (journal : List Entry) (e : Entry) → IsLegal p (journal ++ e ∷ [])
    → IsCancelled p (sub_run (past_of p journal)) (happening p (past_of p journal) e)
cancels p journal e legal =
    let backward : IsLegalBackward p (e ∷ reverse journal) =
    subst (IsLegalBackward p) (reverse-append journal (e ∷ [])) legal in
    cancelled_after p (history p (reverse journal)) e (holds p (reverse journal) backward.2) backward.0
