-- Which turns tell that the run is paused or goes on, and where it ends.
use Rattle.std.proofs.Common.{◌≡◌, ℕ, ◌&&◌, ◌||◌, ◌++◌, List, [], ◌∷◌, Bool, true, false, not, if◌then◌else◌, Option}
use Rattle.std.proofs.Common.{Some, None, is_none, is_some, option_map, reverse, refl, ap, sym, subst, ◌∙◌}
use Rattle.std.specs.Cmp.{second_so}
use Rattle.std.proofs.lemmas.List.{reverse-append}
use Rattle.run_events.specs.Hearing.{heard_key, heard_signal}
use Rattle.run_events.specs.declared.events.ReporterEvent.{ReporterEvent}
use Rattle.run_events.specs.declared.events.TestEventKind.{TestEventKind}
use Rattle.run_events.specs.declared.events.TestEventKind.TheVariants.{RunPaused, RunContinued, SetupScriptStarted}
use Rattle.run_events.specs.declared.info.InfoResponse.{InfoResponse}
use Rattle.run_events.specs.declared.input.InputEvent.{InputEvent}
use Rattle.run_events.specs.declared.input.InputEvent.TheVariants as inputs
use Rattle.run_events.specs.declared.message.Message.{Message}
use Rattle.run_events.specs.declared.message.Message.TheVariants.{ScriptStart, Start, Retry}
use Rattle.run_events.specs.declared.request.Request.TheVariants.{Stop, Continue}
use Rattle.run_events.specs.declared.settings.Settings.{Settings}
use Rattle.run_events.specs.declared.signal.Signal.{Signal as SignalKind}
use Rattle.run_events.specs.declared.signal.Signal.TheVariants.{Int, Hup, Term, Quit, Tstp, Cont, Usr1}
use Rattle.run_events.specs.declared.signal.SignalHandlerKind.{SignalHandlerKind}
use Rattle.run_events.specs.declared.signal.SignalHandlerKind.TheVariants as handlers
use Rattle.run_events.specs.declared.turn.Turn.{Turn}
use Rattle.run_events.specs.declared.turn.Turn.TheVariants.{Admit, Answer, Deliver, End, Key, Signal}
use Rattle.run_model.specs.declared.dispatcher_view.DispatcherView.{DispatcherView}
use Rattle.run_model.specs.declared.dispatcher_view.Tally.{Tally}
use Rattle.run_model.specs.declared.entry.Entry.{Entry}
use Rattle.run_model.specs.declared.happening.Happening.{Happening}
use Rattle.run_model.specs.Admission.{Newcomer, newcomer}
use Rattle.run_model.specs.Board.{Board, Deed, board, dispatcher_of}
use Rattle.run_model.specs.Cancel.{Cause, cause_of, caused}
use Rattle.run_model.specs.Dispatch.{Moment, event, go_of, heard_by, is_halted, may_go, moment_by, retried_event}
use Rattle.run_model.specs.Dispatch.{started_event, takes_signal, told_of, with_start}
use Rattle.run_model.specs.Journal.{past_of, IsLegal, IsLegalBackward}
use Rattle.run_model.specs.Turns.{admission, answer_to, answered_by, deed_on, delivered_as, delivery, enabled, event_of}
use Rattle.run_model.specs.Turns.{happening, job_event, key_deed, live_in, nothing_done, oldest_of, signal_deed}
use Rattle.run_model.specs.Turns.{starting, tally_with, tells}
use Rattle.run_model.specs.Rounds.{answers_waiting, open_round}
use Rattle.run_model.specs.Words.{clock, is_on, is_over, is_run_paused, queue, signals_heard, sub_run, units}
use Rattle.run_laws_cancel.specs.Enabled.{continues, continues_in, is_free}
use Rattle.run_laws_cancel.specs.Pauses.{TellsItsPause, is_all_done, is_cont, is_tstp, pauses, pauses_in}
use Rattle.run_laws_cancel.proofs.RequestLemmas.{paused_is}
use Rattle.run_laws.proofs.board.OnBoard.{index_in}
use Rattle.run_laws.proofs.told.Bounds.{IsBound, IsBoundKind, bound_deed, begin_cases, end_cases}
use Rattle.run_events.specs.declared.turn.Turn.TheVariants.{Begin, End}
use Rattle.run_model.specs.Turns.{index_of}
use Rattle.run_events.specs.declared.events.TestEventKind.TheVariants.{RunStarted, RunFinished, StressSubRunStarted}
use Rattle.run_events.specs.declared.events.TestEventKind.TheVariants.{StressSubRunFinished}
use Rattle.run_events.specs.declared.events.ReporterEvent.TheVariants.{Test}
use Rattle.run_events.specs.declared.events.ReporterEvent.TheVariants.{Tick}

-- an event tells neither
abbrev TellsNeither : Option ReporterEvent → Type 0
TellsNeither told = (pauses told ≡ false) × (continues told ≡ false)

-- what a delivery tells
if_going : (now : Moment) (go : Bool) (kind : TestEventKind) → pauses_in kind ≡ false → continues_in kind ≡ false
    → TellsNeither (option_map (event now) (if go then Some kind else None))
if_going now true kind first second = (first, second)
if_going now false kind first second = (refl, refl)

message_tells : (now : Moment) (t : Tally) (m : Message) → TellsNeither (option_map (event now) (told_of t m))
message_tells now t (ScriptStart start) = if_going now (may_go t) (SetupScriptStarted start) refl refl
message_tells now t (Start start) = if_going now (may_go t) (started_event start (with_start t)) refl refl
message_tells now t (Retry retry) = if_going now (may_go t) (retried_event retry t) refl refl
message_tells now t m = (refl, refl)

caused_tells : (now : Moment) (t : Tally) (o : Option Cause) (d : Deed) → TellsNeither d.told
    → TellsNeither (caused now t o d).told
caused_tells now t None d h = h
caused_tells now t (Some cause) d h = h

delivery_tells : (b : Board) (q : List Message) → TellsNeither (delivery b q).told
delivery_tells b [] = (refl, refl)
delivery_tells b (m ∷ rest) =
    let now : Moment = moment_by b.clock b.dispatcher.watch in
    caused_tells now (tally_with b (event_of b m)) (cause_of b.dispatcher.rules (tally_with b (event_of b m)) m)
    (delivered_as b m (answer_to b (starting m) (go_of b.dispatcher.tally m)))
    (message_tells now b.dispatcher.tally m)

admission_tells : (o : Option Newcomer) → TellsNeither (admission o).told
admission_tells None = (refl, refl)
admission_tells (Some new) = (refl, refl)

answer_tells : (b : Board) (o : Option InfoResponse) → TellsNeither (answered_by b o).told
answer_tells b None = (refl, refl)
answer_tells b (Some response) = (refl, refl)

key_tells : (now live : ℕ) (d : DispatcherView) (event : Option InputEvent)
    → TellsNeither (key_deed now live d event).told
key_tells now live d (Some inputs.Enter) = (refl, refl)
key_tells now live d (Some inputs.Info) = (refl, refl)
key_tells now live d None = (refl, refl)

-- a deed of a turn in a run that is paused or isn't
record TellsBy (paused : Bool) (turn : Turn) (d : Deed) : Type 0 where
  by_tstp : pauses d.told ≡ (is_tstp turn && not paused)
  by_cont : continues d.told ≡ (is_cont turn && paused)
  told : (is_tstp turn || is_cont turn) ≡ true → is_some d.told ≡ (pauses d.told || continues d.told)
  request : (is_tstp turn || is_cont turn) ≡ true → is_some d.request ≡ (pauses d.told || continues d.told)
  after : (is_tstp turn || is_cont turn) ≡ true → d.after ≡ None
  asked : (is_tstp turn || is_cont turn) ≡ true → d.asked ≡ None

-- one of a turn that is neither a tstp nor a cont tells neither
neither : (paused : Bool) (turn : Turn) (d : Deed) → is_tstp turn ≡ false → is_cont turn ≡ false → TellsNeither d.told
    → TellsBy paused turn d
neither paused turn d tstp cont h = record {
  by_tstp = rw tstp h.0;
  by_cont = rw cont h.1;
  told = λ some. absurd (never some);
  request = λ some. absurd (never some);
  after = λ some. absurd (never some);
  asked = λ some. absurd (never some);
}
  where
    never : (is_tstp turn || is_cont turn) ≡ true → ⊥
    never some = let off : false ≡ true = sym (ap (λ b. b || is_cont turn) tstp ∙ cont) ∙ some in cc

-- a tstp and a cont
stops : (now : ℕ) (d : DispatcherView) (paused : Bool) → TellsBy paused (Signal Tstp) (if paused then nothing_done
    else record (tells now d (RunPaused (job_event d.tally))) { request = Some (Stop d.rounds.count) })
stops now d true = record {
  by_tstp = refl;
  by_cont = refl;
  told = λ some. refl;
  request = λ some. refl;
  after = λ some. refl;
  asked = λ some. refl;
}
stops now d false = record {
  by_tstp = refl;
  by_cont = refl;
  told = λ some. refl;
  request = λ some. refl;
  after = λ some. refl;
  asked = λ some. refl;
}

goes_on : (now : ℕ) (d : DispatcherView) (paused : Bool) → TellsBy paused (Signal Cont) (if paused
    then record (tells now d (RunContinued (job_event d.tally))) { request = Some Continue }
    else nothing_done)
goes_on now d true = record {
  by_tstp = refl;
  by_cont = refl;
  told = λ some. refl;
  request = λ some. refl;
  after = λ some. refl;
  asked = λ some. refl;
}
goes_on now d false = record {
  by_tstp = refl;
  by_cont = refl;
  told = λ some. refl;
  request = λ some. refl;
  after = λ some. refl;
  asked = λ some. refl;
}

-- so each signal that is taken
heard_tells : (now live heard : ℕ) (d : DispatcherView) (kind : SignalHandlerKind) (info : Bool) (signal : SignalKind)
    → takes_signal heard (heard_signal kind info signal) ≡ true
    → TellsBy (is_halted d) (Signal signal) (signal_deed now live d signal (heard_signal kind info signal))
heard_tells now live heard d handlers.Standard info Int en = neither _ (Signal Int) _ refl refl (refl, refl)
heard_tells now live heard d handlers.Standard info Hup en = neither _ (Signal Hup) _ refl refl (refl, refl)
heard_tells now live heard d handlers.Standard info Term en = neither _ (Signal Term) _ refl refl (refl, refl)
heard_tells now live heard d handlers.Standard true Quit en = neither _ (Signal Quit) _ refl refl (refl, refl)
heard_tells now live heard d handlers.Standard false Quit en = neither _ (Signal Quit) _ refl refl (refl, refl)
heard_tells now live heard d handlers.Standard info Tstp en = stops now d (is_halted d)
heard_tells now live heard d handlers.Standard info Cont en = goes_on now d (is_halted d)
heard_tells now live heard d handlers.Standard info Usr1 en = neither _ (Signal Usr1) _ refl refl (refl, refl)
heard_tells now live heard d handlers.DebuggerMode info Int en = neither _ (Signal Int) _ refl refl (refl, refl)
heard_tells now live heard d handlers.DebuggerMode info Hup en = neither _ (Signal Hup) _ refl refl (refl, refl)
heard_tells now live heard d handlers.DebuggerMode info Term en = neither _ (Signal Term) _ refl refl (refl, refl)
heard_tells now live heard d handlers.DebuggerMode info Quit en = neither _ (Signal Quit) _ refl refl (refl, refl)
heard_tells now live heard d handlers.DebuggerMode info Tstp en = stops now d (is_halted d)
heard_tells now live heard d handlers.DebuggerMode info Cont en = goes_on now d (is_halted d)
heard_tells now live heard d handlers.DebuggerMode info Usr1 en = neither _ (Signal Usr1) _ refl refl (refl, refl)
heard_tells now live heard d handlers.Noop info signal en = cc

-- the begin and the end of a sub-run tell no pause
bound_tells : (halted : Bool) (turn : Turn) (told after : Option ReporterEvent) → IsBound told → is_tstp turn ≡ false
    → is_cont turn ≡ false → (begins ends over : Bool)
    → TellsBy halted turn (bound_deed told after begins ends over)
bound_tells halted turn told after own stops goes begins ends over = neither _ turn _ stops goes (by_told told own)
  where
    by_told : (o : Option ReporterEvent) → IsBound o → (pauses o ≡ false) × (continues o ≡ false)
    by_told None h = (refl, refl)
    by_told (Some Tick) h = absurd h
    by_told (Some (Test event)) h = by_kind event.kind h
      where
        by_kind : (kind : TestEventKind) → IsBoundKind kind
            → (pauses (Some (Test (record event { kind = kind }))) ≡ false)
            × (continues (Some (Test (record event { kind = kind }))) ≡ false)
        by_kind (RunStarted s) h = (refl, refl)
        by_kind (StressSubRunStarted s) h = (refl, refl)
        by_kind (StressSubRunFinished s) h = (refl, refl)
        by_kind (RunFinished s) h = (refl, refl)
        by_kind kind h = absurd h

-- and each enabled turn
deed_tells : (p : Settings) (past : List Happening) (turn : Turn) → enabled p past turn ≡ true
    → TellsBy (is_halted (dispatcher_of p past)) turn (deed_on p (board p past) turn)
deed_tells p past (Signal signal) en =
    heard_tells (clock past) (live_in (units p (sub_run past))) (signals_heard (sub_run past)) (dispatcher_of p past)
    p.plan.hearing.signals p.plan.hearing.quit_is_info signal
    (second_so (is_on (sub_run past) && is_none (open_round (sub_run past)))
    (takes_signal (signals_heard (sub_run past)) (heard_by p.plan.hearing signal))
    (second_so (not (is_over past)) _ en))
deed_tells p past Begin en = begin_cases (λ d. TellsBy (is_halted (dispatcher_of p past)) Begin d)
    (λ told after own later. bound_tells _ Begin told after own refl refl true false false)
    (clock past) (dispatcher_of p past)
deed_tells p past End en = end_cases (λ d. TellsBy (is_halted (dispatcher_of p past)) End d)
    (λ told after over own later. bound_tells _ End told after own refl refl false true over)
    (clock past) (dispatcher_of p past)
deed_tells p past Admit en = neither _ Admit _ refl refl (admission_tells
    (newcomer p (index_of (dispatcher_of p past)) (units p (sub_run past))))
deed_tells p past Deliver en = neither _ Deliver _ refl refl (delivery_tells (board p past) (queue (sub_run past)))
deed_tells p past (Key key) en =
    neither _ (Key key) _ refl refl (key_tells (clock past) (live_in (units p (sub_run past))) (dispatcher_of p past)
    (heard_key p.plan.hearing.input key))
deed_tells p past Answer en =
    neither _ Answer _ refl refl (answer_tells (board p past) (oldest_of (answers_waiting (sub_run past))))
deed_tells p past turn en = neither _ turn _ refl refl (refl, refl)

-- so each enabled turn tells its pause
pub pause_of : (p : Settings) (past : List Happening) (e : Entry) → enabled p past e.turn ≡ true
    → TellsItsPause past (happening p past e)
pause_of p past e en = record {
  paused = by_turn.by_tstp ∙ ap (λ b. is_tstp e.turn && not b) (paused_is past);
  continued = by_turn.by_cont ∙ ap (λ b. is_cont e.turn && b) (paused_is past);
  no_more = λ some. record {
    told = by_turn.told some;
    request = by_turn.request some;
    after = by_turn.after some;
    asked = by_turn.asked some;
  };
}
  where
    by_turn : TellsBy (is_halted (dispatcher_of p past)) e.turn (deed_on p (board p past) e.turn)
    by_turn = deed_tells p past e.turn en

pub of_signals : (p : Settings) (journal : List Entry) (e : Entry) → IsLegal p (journal ++ e ∷ [])
    → TellsItsPause (past_of p journal) (happening p (past_of p journal) e)
of_signals p journal e legal =
    let backward : IsLegalBackward p (e ∷ reverse journal) =
    subst (IsLegalBackward p) (reverse-append journal (e ∷ [])) legal in
    pause_of p (past_of p journal) e backward.0

-- a run ends where it isn't paused
pub ends_unpaused : (p : Settings) (past : List Happening)
    → enabled p past End ≡ (is_free past && is_all_done p (sub_run past) && not (is_run_paused past))
ends_unpaused p past =
    ap (λ b. not (is_over past)
    && (is_on (sub_run past) && is_none (open_round (sub_run past)) && is_all_done p (sub_run past) &&
    not b)) (paused_is past)
    ∙ group (not (is_over past)) (is_on (sub_run past)) (is_none (open_round (sub_run past)))
    (is_all_done p (sub_run past))
    (not (is_run_paused past))
  where
    group : (a b c d e : Bool) → (a && (b && c && d && e)) ≡ (a && b && c && d && e)
    group true b c d e = refl
    group false b c d e = refl
