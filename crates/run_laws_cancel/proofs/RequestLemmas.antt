-- Each turn asks what is asked for its cause.
use Rattle.std.proofs.Common.{◌≡◌, ℕ, ◌==◌, ◌++◌, List, [], ◌∷◌, nat_le, Bool, true, false, if◌then◌else◌}
use Rattle.std.proofs.Common.{Option, Some, None, is_some, reverse, refl, ap, sym, subst, ◌∙◌}
use Rattle.std.specs.Prelude.{⊤}
use Rattle.std.proofs.lemmas.List.{reverse-append}
use Rattle.run_events.specs.Outcome.{failed_count}
use Rattle.run_events.specs.Result.{is_success}
use Rattle.run_events.specs.declared.cancel.CancelReason.{CancelReason}
use Rattle.run_events.specs.declared.message.Message.{Message}
use Rattle.run_events.specs.declared.message.Message.TheVariants.{Finish, ScriptFinish}
use Rattle.run_events.specs.declared.request.Request.{Request}
use Rattle.run_events.specs.declared.result.ExecutionResult.{ExecutionResult}
use Rattle.run_events.specs.declared.retry_policy.MaxFail.{MaxFail}
use Rattle.run_events.specs.declared.retry_policy.MaxFail.TheVariants.{All, Count}
use Rattle.run_events.specs.declared.retry_policy.TerminateMode.{TerminateMode}
use Rattle.run_events.specs.declared.retry_policy.TerminateMode.TheVariants.{Wait, Immediate}
use Rattle.run_events.specs.declared.settings.Settings.{Settings}
use Rattle.run_events.specs.declared.signal.Signal.{Signal as SignalKind}
use Rattle.run_events.specs.declared.signal.Signal.TheVariants.{Int, Hup, Term, Quit, Tstp, Cont, Usr1}
use Rattle.run_events.specs.declared.signal.SignalHandlerKind.{SignalHandlerKind}
use Rattle.run_events.specs.declared.signal.SignalHandlerKind.TheVariants as handlers
use Rattle.run_events.specs.declared.stats.RunStats.{RunStats}
use Rattle.run_events.specs.declared.turn.Turn.{Turn}
use Rattle.run_events.specs.declared.turn.Turn.TheVariants.{Admit, Answer, Deliver, GlobalDue, Key, ReportCancel}
use Rattle.run_events.specs.declared.turn.Turn.TheVariants.{Signal}
use Rattle.run_events.specs.Hearing.{heard_key, heard_signal}
use Rattle.run_events.specs.declared.events.TestEventKind.TheVariants.{RunPaused, RunContinued}
use Rattle.run_events.specs.declared.info.InfoResponse.{InfoResponse}
use Rattle.run_events.specs.declared.input.InputEvent.{InputEvent}
use Rattle.run_events.specs.declared.input.InputEvent.TheVariants as inputs
use Rattle.run_events.specs.declared.request.Request.TheVariants.{Stop, Continue, GetInfo}
use Rattle.run_clock.specs.Counted.{Act, pause, resume, other, is_paused_after}
use Rattle.run_clock.specs.Stopwatch.{Watch}
use Rattle.run_model.specs.declared.dispatcher_view.DispatcherView.{DispatcherView}
use Rattle.run_model.specs.declared.dispatcher_view.Tally.{Tally}
use Rattle.run_model.specs.declared.entry.Entry.{Entry}
use Rattle.run_model.specs.declared.happening.Happening.{Happening}
use Rattle.run_model.specs.Admission.{Newcomer, newcomer}
use Rattle.run_model.specs.Board.{Board, Deed, board, dispatcher_of}
use Rattle.run_model.specs.Cancel.{Cause, caused, event_refused, failure_cause, is_above, script_cause, script_failed}
use Rattle.run_model.specs.Cancel.{signal_cause, time_is_up, too_many_failed}
use Rattle.run_model.specs.Dispatch.{Moment, having_told, go_of, is_halted, moment_by}
use Rattle.run_model.specs.Journal.{history, past_of, IsLegal, IsLegalBackward}
use Rattle.run_model.specs.Pauses.{watch_closed}
use Rattle.run_model.specs.Rounds.{act_of, answers_waiting, round_count, run_watch, watch_after}
use Rattle.run_model.specs.Turns.{admission, answer_to, answered_by, asks_at, cancels_for, deed_on, delivered_as}
use Rattle.run_model.specs.Turns.{delivery, enabled, event_of, happening, job_deed, job_event, key_deed, live_in}
use Rattle.run_model.specs.Turns.{nothing_done, oldest_of, signal_deed, starting, tally_with, tells}
use Rattle.run_model.specs.Words.{clock, is_over, is_run_paused, queue, reason, sub_run, tally, told, units}
use Rattle.run_laws.specs.Cancels.{rises}
use Rattle.run_laws.proofs.board.Tallies.{counts-more}
use Rattle.run_laws.proofs.board.DeedFits.{Does}
use Rattle.run_laws.proofs.board.Facts.{stats-reason}
use Rattle.run_laws.proofs.board.Deeds.{base_of}
use Rattle.run_laws.proofs.told.Bounds.{begin_cases, end_cases}
use Rattle.run_events.specs.declared.turn.Turn.TheVariants.{Begin, End}
use Rattle.run_model.specs.Turns.{index_of}
use Rattle.run_laws.proofs.board.Kept.{HoldsAfter, does_after, holds}
use Rattle.run_laws_cancel.specs.Requests.{AsksForItsCause, job_request, key_request, request_besides, request_for}
use Rattle.run_laws_cancel.specs.Requests.{signal_request}
use Rattle.run_laws.proofs.board.OnBoard.{Frame}
use Rattle.run_laws.proofs.board.OnBoard.{index_in}
use Rattle.run_laws.proofs.board.OnBoard.{frame_of}
use Rattle.run_laws.proofs.told.Cancelled.{reason_kept}
use Rattle.run_laws.proofs.told.Cancelled.{rises-is}

-- what is asked for a cause with this reason as the one that stands, and else this
abbrev asked_for : Turn → Option CancelReason → Option CancelReason → Option Request → Option Request
asked_for turn why cause besides = if rises why cause then request_for turn cause else besides

-- a deed asks that, by the counts after its own event
abbrev AsksBy : Tally → Turn → Option Request → Deed → Type 0
AsksBy t turn besides d = d.request ≡ asked_for turn (having_told t d.told).stats.cancel_reason d.cause besides

-- a cause that a turn may be asks what is asked for its reason
abbrev IsCauseOf : Turn → Option Cause → Type 0
IsCauseOf turn None = ⊤
IsCauseOf turn (Some cause) = Some cause.request ≡ request_for turn (Some cause.reason)

-- so a deed with such a cause asks that, which does nothing else
caused_asks : (now : Moment) (t : Tally) (turn : Turn) (o : Option Cause) (d : Deed) → d.cause ≡ None
    → d.request ≡ None → IsCauseOf turn o → AsksBy t turn None (caused now (having_told t d.told) o d)
caused_asks now t turn None d cause request fits = rw cause request
caused_asks now t turn (Some cause) d none request fits =
    ap (λ r. if is_above (having_told t d.told).stats.cancel_reason cause.reason then r else None) fits
    ∙ ap (λ b. if b then request_for turn (Some cause.reason) else None)
    (sym (rises-is (having_told t d.told).stats.cancel_reason cause.reason))

-- one without a cause asks what it asks besides
quiet_asks : (t : Tally) (turn : Turn) (besides : Option Request) (d : Deed) → d.cause ≡ None → d.request ≡ besides
    → AsksBy t turn besides d
quiet_asks t turn besides d cause request = rw cause request

-- the causes that a delivery may be
script_fits : (result : ExecutionResult) → IsCauseOf Deliver (script_cause result)
script_fits result = by_success (is_success result)
  where
    by_success : (b : Bool) → IsCauseOf Deliver (if b then None else Some script_failed)
    by_success true = tt
    by_success false = refl

failures_fit : (most : MaxFail) (stats : RunStats) → IsCauseOf Deliver (failure_cause most stats)
failures_fit All stats = tt
failures_fit (Count most mode) stats = by_count (nat_le most (failed_count stats)) mode
  where
    by_count : (b : Bool) (mode : TerminateMode) → IsCauseOf Deliver (if b then Some (too_many_failed mode) else None)
    by_count true Wait = refl
    by_count true Immediate = refl
    by_count false mode = tt

-- the cause that a signal is
signal_fits : (heard : ℕ) (signal : SignalKind) → IsCauseOf (Signal signal) (Some (signal_cause 0 signal))
    → IsCauseOf (Signal signal) (Some (signal_cause 1 signal))
    → IsCauseOf (Signal signal) (Some (signal_cause heard signal))
signal_fits heard signal first second = by_first (heard == 0)
  where
    by_first : (b : Bool)
        → IsCauseOf (Signal signal) (Some (if b then signal_cause 0 signal else signal_cause 1 signal))
    by_first true = first
    by_first false = second

-- a pause, a continue and a round of queries
pub paused_is : (run : List Happening) → is_some (run_watch run).opened ≡ is_run_paused run
paused_is [] = refl
paused_is (x ∷ run) = by_act (act_of x.told) (paused_is run)
  where
    closed : (o : Option ℕ) → o ≡ (run_watch run).opened
        → is_some (watch_closed x.moment o (run_watch run)).opened ≡ false
    closed None is = ap is_some (sym is)
    closed (Some opened) is = refl

    by_act : (act : Act) → is_some (run_watch run).opened ≡ is_run_paused run
        → is_some (watch_after x.moment act (run_watch run)).opened ≡ is_paused_after act (is_run_paused run)
    by_act pause was = refl
    by_act resume was = closed (run_watch run).opened refl
    by_act other was = was

-- a board that has the pause of a run and the rounds of its newest sub-run
record IsAsIn (past : List Happening) (d : DispatcherView) : Type 0 where
  halted : is_halted d ≡ is_run_paused past
  count : d.rounds.count ≡ round_count (sub_run past)

job_asks : (run : List Happening) (now : ℕ) (d : DispatcherView) (t : Tally) (turn : Turn) → IsAsIn run d
    → AsksBy t turn (job_request run Tstp) (job_deed now d Tstp)
    × AsksBy t turn (job_request run Cont) (job_deed now d Cont)
job_asks run now d t turn same = (
  rw (sym same.halted, sym same.count) (stops (is_halted d)),
  rw (sym same.halted) (goes_on (is_halted d)),
)
  where
    stops : (b : Bool) → AsksBy t turn (if b then None else Some (Stop d.rounds.count)) (if b then nothing_done
        else record (tells now d (RunPaused (job_event d.tally))) { request = Some (Stop d.rounds.count) })
    stops true = refl
    stops false = refl

    goes_on : (b : Bool) → AsksBy t turn (if b then Some Continue else None) (if b
        then record (tells now d (RunContinued (job_event d.tally))) { request = Some Continue }
        else nothing_done)
    goes_on true = refl
    goes_on false = refl

-- what a signal asks, by what the run hears it as
heard_asks : (run : List Happening) (now live : ℕ) (d : DispatcherView) → IsAsIn run d
    → (kind : SignalHandlerKind) (info : Bool) (signal : SignalKind)
    → AsksBy d.tally (Signal signal) (signal_request run signal (heard_signal kind info signal))
    (signal_deed now live d signal (heard_signal kind info signal))
heard_asks run now live d same kind info signal = by_kind kind info signal
  where
    cancels : (signal : SignalKind) → IsCauseOf (Signal signal) (Some (signal_cause 0 signal))
        → IsCauseOf (Signal signal) (Some (signal_cause 1 signal))
        → AsksBy d.tally (Signal signal) None (cancels_for now d (signal_cause d.causes.signals signal))
    cancels signal first second =
        caused_asks (moment_by now d.watch) d.tally (Signal signal) (Some (signal_cause d.causes.signals signal))
        nothing_done refl refl (signal_fits d.causes.signals signal first second)

    queries : (signal : SignalKind)
        → AsksBy d.tally (Signal signal) (Some (GetInfo (round_count (sub_run run)))) (asks_at now live d)
    queries signal = ap (λ n. Some (GetInfo n)) same.count

    by_kind : (kind : SignalHandlerKind) (info : Bool) (signal : SignalKind)
        → AsksBy d.tally (Signal signal) (signal_request run signal (heard_signal kind info signal))
        (signal_deed now live d signal (heard_signal kind info signal))
    by_kind handlers.Standard info Int = cancels Int refl refl
    by_kind handlers.Standard info Hup = cancels Hup refl refl
    by_kind handlers.Standard info Term = cancels Term refl refl
    by_kind handlers.Standard true Quit = queries Quit
    by_kind handlers.Standard false Quit = cancels Quit refl refl
    by_kind handlers.Standard info Tstp = (job_asks run now d d.tally (Signal Tstp) same).0
    by_kind handlers.Standard info Cont = (job_asks run now d d.tally (Signal Cont) same).1
    by_kind handlers.Standard info Usr1 = queries Usr1
    by_kind handlers.DebuggerMode info Int = refl
    by_kind handlers.DebuggerMode info Hup = cancels Hup refl refl
    by_kind handlers.DebuggerMode info Term = cancels Term refl refl
    by_kind handlers.DebuggerMode info Quit = refl
    by_kind handlers.DebuggerMode info Tstp = (job_asks run now d d.tally (Signal Tstp) same).0
    by_kind handlers.DebuggerMode info Cont = (job_asks run now d d.tally (Signal Cont) same).1
    by_kind handlers.DebuggerMode info Usr1 = refl
    by_kind handlers.Noop info signal = refl

-- the board after a history has the pause of the run and the rounds of its newest sub-run
as_in : (p : Settings) (past : List Happening) → IsAsIn past (dispatcher_of p past)
as_in p past = record { halted = paused_is past; count = refl }

-- so each enabled turn asks that
delivery_asks : (b : Board) (q : List Message) → AsksBy b.dispatcher.tally Deliver None (delivery b q)
delivery_asks b [] = refl
delivery_asks b (ScriptFinish finish ∷ rest) =
    let d : Deed = delivered_as b (ScriptFinish finish)
    (answer_to b (starting (ScriptFinish finish)) (go_of b.dispatcher.tally (ScriptFinish finish))) in
    caused_asks (moment_by b.clock b.dispatcher.watch) b.dispatcher.tally Deliver (script_cause finish.status.result) d
    refl refl (script_fits finish.status.result)
delivery_asks b (Finish finish ∷ rest) =
    let t : Tally = tally_with b (event_of b (Finish finish)) in
    let d : Deed = delivered_as b (Finish finish)
    (answer_to b (starting (Finish finish)) (go_of b.dispatcher.tally (Finish finish))) in
    caused_asks (moment_by b.clock b.dispatcher.watch) b.dispatcher.tally Deliver
    (failure_cause b.dispatcher.rules.max_fail t.stats) d refl refl (failures_fit b.dispatcher.rules.max_fail t.stats)
delivery_asks b (m ∷ rest) = refl

admission_asks : (t : Tally) (o : Option Newcomer) → AsksBy t Admit None (admission o)
admission_asks t None = refl
admission_asks t (Some new) = refl

answer_asks : (b : Board) (t : Tally) (o : Option InfoResponse) → AsksBy t Answer None (answered_by b o)
answer_asks b t None = refl
answer_asks b t (Some response) = refl

key_asks : (run : List Happening) (now live : ℕ) (d : DispatcherView) (t : Tally) (turn : Turn) → IsAsIn run d
    → (event : Option InputEvent) → AsksBy t turn (key_request run event) (key_deed now live d event)
key_asks run now live d t turn same (Some inputs.Enter) = refl
key_asks run now live d t turn same (Some inputs.Info) = ap (λ n. Some (GetInfo n)) same.count
key_asks run now live d t turn same None = refl

deed_asks : (p : Settings) (past : List Happening) (turn : Turn)
    → AsksBy (tally p (sub_run past)) turn (request_besides p past turn) (deed_on p (board p past) turn)
deed_asks p past Begin = begin_cases (λ d. AsksBy (tally p (sub_run past)) Begin None d) (λ told after own later. refl)
    (clock past) (dispatcher_of p past)
deed_asks p past End = end_cases (λ d. AsksBy (tally p (sub_run past)) End None d) (λ told after over own later. refl)
    (clock past) (dispatcher_of p past)
deed_asks p past Admit = admission_asks (tally p (sub_run past))
    (newcomer p (index_of (dispatcher_of p past)) (units p (sub_run past)))
deed_asks p past Deliver = delivery_asks (board p past) (queue (sub_run past))
deed_asks p past (Signal signal) =
    heard_asks past (clock past) (live_in (units p (sub_run past))) (dispatcher_of p past)
    (as_in p past) p.plan.hearing.signals p.plan.hearing.quit_is_info signal
deed_asks p past (Key key) =
    key_asks past (clock past) (live_in (units p (sub_run past))) (dispatcher_of p past)
    (tally p (sub_run past)) (Key key) (as_in p past) (heard_key p.plan.hearing.input key)
deed_asks p past GlobalDue =
    caused_asks (moment_by (clock past) (run_watch past)) (tally p (sub_run past)) GlobalDue (Some time_is_up)
    nothing_done refl refl refl
deed_asks p past ReportCancel =
    caused_asks (moment_by (clock past) (run_watch past)) (tally p (sub_run past)) ReportCancel (Some event_refused)
    nothing_done refl refl refl
deed_asks p past Answer = answer_asks (board p past) (tally p (sub_run past))
    (oldest_of (answers_waiting (sub_run past)))
deed_asks p past turn = refl

-- the counts after a deed's own event have the reason of those before
asks_after : (p : Settings) (past : List Happening) (e : Entry) → HoldsAfter p past → enabled p past e.turn ≡ true
    → AsksForItsCause p past (happening p past e)
asks_after p past e h en = by_begin d.begins refl
  where
    run : List Happening
    run = sub_run past

    d : Deed
    d = deed_on p (board p past) e.turn

    does : Does p (frame_of p past) (clock past) (base_of d.begins run) d
    does = does_after p past e h en

    asked : d.request ≡ asked_for e.turn (having_told (tally p run) d.told).stats.cancel_reason d.cause
        (request_besides p past e.turn)
    asked = deed_asks p past e.turn

    by_begin : (b : Bool) → d.begins ≡ b → AsksForItsCause p past (happening p past e)
    by_begin true is =
        let it = (does.marks.begins is).1 in
        asked ∙ ap (λ cause. asked_for e.turn (having_told (tally p run) d.told).stats.cancel_reason cause
        (request_besides p past e.turn)) it.cause
        ∙ sym (ap (λ cause. asked_for e.turn (reason run) cause (request_besides p past e.turn)) it.cause)
    by_begin false is =
        asked ∙ ap (λ why. asked_for e.turn why d.cause (request_besides p past e.turn))
        (reason_kept p (frame_of p past) (clock past) run d
        (subst (λ b. Does p (frame_of p past) (clock past) (base_of b run) d) is does))

pub requests : (p : Settings) (journal : List Entry) (e : Entry) → IsLegal p (journal ++ e ∷ [])
    → AsksForItsCause p (past_of p journal) (happening p (past_of p journal) e)
requests p journal e legal =
    let backward : IsLegalBackward p (e ∷ reverse journal) =
    subst (IsLegalBackward p) (reverse-append journal (e ∷ [])) legal in
    asks_after p (history p (reverse journal)) e (holds p (reverse journal) backward.2) backward.0
