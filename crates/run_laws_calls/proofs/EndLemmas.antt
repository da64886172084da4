-- Which turns tell that a sub-run of a stress run ended, or such a run: none but an end.
use Rattle.std.proofs.Common.{◌≡◌, ◌||◌, ◌==◌, ℕ, List, [], ◌∷◌, Bool, true, false, not, if◌then◌else◌, Option}
use Rattle.std.proofs.Common.{Some, None, option_map, refl, sym, subst}
use Rattle.std.specs.Prelude.{IfSome}
use Rattle.std.specs.Cmp.{second_so}
use Rattle.run_commands.specs.declared.stress_count.StressCondition.{StressCondition}
use Rattle.run_events.specs.declared.cancel.CancelReason.{CancelReason}
use Rattle.run_events.specs.declared.cancel.CancelReason.TheVariants.{SetupScriptFailure, TestFailure, ReportError}
use Rattle.run_events.specs.declared.cancel.CancelReason.TheVariants.{GlobalTimeout, TestFailureImmediate}
use Rattle.run_events.specs.declared.cancel.CancelReason.TheVariants.{Signal as BySignal, Interrupt, SecondSignal}
use Rattle.run_events.specs.declared.events.ReporterEvent.{ReporterEvent}
use Rattle.run_events.specs.declared.events.ReporterEvent.TheVariants.{Tick, Test}
use Rattle.run_events.specs.declared.events.TestEventKind.{TestEventKind}
use Rattle.run_events.specs.declared.events.TestEventKind.TheVariants.{RunPaused, RunContinued, InfoStarted}
use Rattle.run_events.specs.declared.events.TestEventKind.TheVariants.{InfoResponse as InfoAnswer, InfoFinished}
use Rattle.run_events.specs.declared.events.TestEventKind.TheVariants.{InputEnter}
use Rattle.run_events.specs.Hearing.{heard_key}
use Rattle.run_events.specs.declared.message.Message.{Message}
use Rattle.run_events.specs.declared.message.Message.TheVariants.{ScriptStart, Start, Retry}
use Rattle.run_events.specs.declared.settings.Settings.{Settings}
use Rattle.run_events.specs.declared.turn.Turn.{Turn}
use Rattle.run_model.specs.declared.dispatcher_view.DispatcherView.{DispatcherView}
use Rattle.run_model.specs.declared.dispatcher_view.Tally.{Tally}
use Rattle.run_model.specs.declared.entry.Entry.{Entry}
use Rattle.run_model.specs.declared.happening.Happening.{Happening}
use Rattle.run_model.specs.Admission.{Newcomer, newcomer}
use Rattle.run_model.specs.Board.{Board, Deed, board}
use Rattle.run_model.specs.Cancel.{cancel_event, cancelled_for, cause_of, is_above}
use Rattle.run_model.specs.Dispatch.{Moment, event, go_of, having_told, heard_by, may_go, moment_by, told_of}
use Rattle.run_model.specs.Turns.{admission, answer_to, begins_as, deed_on, delivered_as, delivery, done_by, enabled}
use Rattle.run_model.specs.Turns.{event_of, index_of, live_in, oldest_of, starting, sub_run_started, takes_turn}
use Rattle.run_model.specs.Turns.{tally_with, turn_of_unit}
use Rattle.run_model.specs.Words.{clock, is_over, sub_run, tally}
use Rattle.run_laws.proofs.board.ByTurn.{by_turn}
use Rattle.run_laws.proofs.board.DeedFits.{Does}
use Rattle.run_laws.proofs.board.Deeds.{base_of}
use Rattle.run_laws.proofs.board.Kept.{HoldsAfter, does_after}
use Rattle.run_laws.proofs.board.OnBoard.{frame_of, moment_in}
use Rattle.run_laws.proofs.told.Asides.{IsAside, IsAsideEvent, IsAsideKind, answer_aside, by_signal, inform_aside}
use Rattle.run_laws.proofs.told.Asides.{key_aside, tick_aside}
use Rattle.run_laws.proofs.told.Begins.{begins_only}
use Rattle.run_laws.proofs.told.Bounds.{end_cases}
use Rattle.run_laws.proofs.told.Cancels.{cancel_for}
use Rattle.run_laws_calls.specs.SubRunEnds.{stress_end, stress_end_in, sub_run_end, sub_run_end_in}
use Rattle.run_laws.proofs.told.CauseLemmas.{told_is}

-- an event that tells no such end, and none or one
abbrev IsNoEndKind : TestEventKind → Type 0
IsNoEndKind kind = (sub_run_end_in kind ≡ None) × (stress_end_in kind ≡ None)

abbrev pub TellsNoEnd : Option ReporterEvent → Type 0
TellsNoEnd o = IfSome o (λ e. (sub_run_end e ≡ None) × (stress_end e ≡ None))

-- what the delivery of a message tells
when : (now : Moment) (go : Bool) (kind : TestEventKind) → IsNoEndKind kind
    → TellsNoEnd (option_map (event now) (if go then Some kind else None))
when now true kind none = none
when now false kind none = tt

message_end : (now : Moment) (t : Tally) (m : Message) → TellsNoEnd (option_map (event now) (told_of t m))
message_end now t (ScriptStart start) = when now (may_go t) _ (refl, refl)
message_end now t (Start start) = when now (may_go t) _ (refl, refl)
message_end now t (Retry retry) = when now (may_go t) _ (refl, refl)
message_end now t m = (refl, refl)

delivery_end : (b : Board) (q : List Message) → TellsNoEnd (delivery b q).told
delivery_end b [] = tt
delivery_end b (m ∷ rest) =
    subst TellsNoEnd (sym (told_is (moment_by b.clock b.dispatcher.watch) (tally_with b (event_of b m))
    (cause_of b.dispatcher.rules (tally_with b (event_of b m)) m)
    (delivered_as b m (answer_to b (starting m) (go_of b.dispatcher.tally m)))))
    (message_end (moment_by b.clock b.dispatcher.watch) b.dispatcher.tally m)

admission_end : (o : Option Newcomer) → TellsNoEnd (admission o).told
admission_end None = tt
admission_end (Some new) = tt

aside_end : (d : Deed) → IsAside d → TellsNoEnd d.told
aside_end d aside = by_told d.told aside.told
  where
    by_kind : (kind : TestEventKind) → IsAsideKind kind → IsNoEndKind kind
    by_kind (RunPaused event) h = (refl, refl)
    by_kind (RunContinued event) h = (refl, refl)
    by_kind (InfoStarted event) h = (refl, refl)
    by_kind (InfoAnswer event) h = (refl, refl)
    by_kind (InfoFinished missing) h = (refl, refl)
    by_kind (InputEnter event) h = (refl, refl)
    by_kind kind h = absurd h

    by_told : (o : Option ReporterEvent) → IfSome o IsAsideEvent → TellsNoEnd o
    by_told None h = tt
    by_told (Some Tick) h = (refl, refl)
    by_told (Some (Test event)) h = by_kind event.kind h

-- the begin of a sub-run tells none
begun_end : (now : ℕ) (d : DispatcherView) (first : Bool)
    → TellsNoEnd (begins_as now d first).told × TellsNoEnd (begins_as now d first).after
begun_end now d first = by_first first
  where
    starts : (o : Option StressCondition) → TellsNoEnd (option_map (sub_run_started now d) o)
    starts None = tt
    starts (Some condition) = (refl, refl)

    by_first : (first : Bool) → TellsNoEnd (begins_as now d first).told × TellsNoEnd (begins_as now d first).after
    by_first true = ((refl, refl), starts d.head.stress)
    by_first false = (starts d.head.stress, tt)

-- so a turn that ends no sub-run tells none by itself
pub own_end : (p : Settings) (past : List Happening) (turn : Turn) → enabled p past turn ≡ true
    → (deed_on p (board p past) turn).ends ≡ false → TellsNoEnd (deed_on p (board p past) turn).told
own_end p past turn en =
    by_turn (λ turn named. takes_turn p b turn named ≡ true → (done_by p b turn named).ends ≡ false
    → TellsNoEnd (done_by p b turn named).told)
    (record {
      begin = λ en none. (begun_end b.clock b.dispatcher (b.dispatcher.sub_runs.ended == 0)).0;
      admit = λ en none. admission_end (newcomer p (index_of b.dispatcher) b.units);
      deliver = λ en none. delivery_end b b.queue;
      named = λ turn k to other en none. tt;
      clock = λ ns en none. tt;
      signal = λ signal en none. by_signal (λ d. TellsNoEnd d.told) b.clock (live_in b.units) b.dispatcher signal
          (heard_by b.dispatcher.rules.hearing signal) tt aside_end;
      global_due = λ en none. tt;
      report_cancel = λ en none. tt;
      end = λ en. end_cases (λ d. d.ends ≡ false → TellsNoEnd d.told) (λ told after over own later none. cc) b.clock
          b.dispatcher;
      key = λ key en none. aside_end _ (key_aside b.clock (live_in b.units) b.dispatcher
          (heard_key b.dispatcher.rules.hearing.input key));
      tick = λ en none. aside_end _ tick_aside;
      stop_wait_due = λ en none. tt;
      answer = λ en none. aside_end _ (answer_aside b (oldest_of b.answers));
      info_due = λ en none. aside_end _ (inform_aside b.clock b.dispatcher);
    })
    turn (second_so (not (is_over past)) (takes_turn p b turn (turn_of_unit turn)) en)
  where
    b : Board
    b = board p past

-- nor after that
cause_end : (now : Moment) (t : Tally) (cause : Option CancelReason) → TellsNoEnd (cancel_for now t cause)
cause_end now t None = tt
cause_end now t (Some r) = by_rank (is_above t.stats.cancel_reason r)
  where
    of_reason : (r : CancelReason) → TellsNoEnd (Some (event now (cancel_event r (cancelled_for r t))))
    of_reason SetupScriptFailure = (refl, refl)
    of_reason TestFailure = (refl, refl)
    of_reason ReportError = (refl, refl)
    of_reason GlobalTimeout = (refl, refl)
    of_reason TestFailureImmediate = (refl, refl)
    of_reason BySignal = (refl, refl)
    of_reason Interrupt = (refl, refl)
    of_reason SecondSignal = (refl, refl)

    by_rank : (b : Bool) → TellsNoEnd (if b then Some (event now (cancel_event r (cancelled_for r t))) else None)
    by_rank true = of_reason r
    by_rank false = tt

pub after_end : (p : Settings) (past : List Happening) (e : Entry) → HoldsAfter p past → enabled p past e.turn ≡ true
    → (deed_on p (board p past) e.turn).ends ≡ false → TellsNoEnd (deed_on p (board p past) e.turn).after
after_end p past e h en none = by_begin d.begins refl
  where
    d : Deed
    d = deed_on p (board p past) e.turn

    does : Does p (frame_of p past) (clock past) (base_of d.begins (sub_run past)) d
    does = does_after p past e h en

    both : (a b : Bool) → a ≡ false → b ≡ false → (a || b) ≡ false
    both false b first second = second
    both true b first second = cc

    by_begin : (b : Bool) → d.begins ≡ b → TellsNoEnd d.after
    by_begin true is =
        subst (λ turn. TellsNoEnd (deed_on p (board p past) turn).after) (sym (begins_only p (board p past) e.turn is))
        (begun_end (board p past).clock (board p past).dispatcher ((board p past).dispatcher.sub_runs.ended == 0)).1
    by_begin false is =
        subst TellsNoEnd (sym (does.marks.cancel (both d.begins d.ends is none)))
        (cause_end (moment_in (clock past) (frame_of p past))
        (having_told (tally p (base_of d.begins (sub_run past))) d.told) d.cause)
