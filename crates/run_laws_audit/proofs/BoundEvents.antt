-- What a turn tells, as it is seen: a begin and an end what opens and closes, and any other turn what stands within.
use Rattle.std.proofs.Common.{◌≡◌, ◌||◌, ℕ, List, [], ◌∷◌, ◌++◌, map, Bool, true, false, not, if◌then◌else◌}
use Rattle.std.proofs.Common.{Option, Some, None, option_map, option_to_list, is_some, refl, ap, sym, subst}
use Rattle.std.specs.Prelude.{IfSome}
use Rattle.std.specs.Cmp.{second_so}
use Rattle.std.specs.List.{All}
use Rattle.std.proofs.lemmas.List.Elements.{All-nil, All-cons, All-append}
use Rattle.run_commands.specs.declared.stress_count.StressCondition.{StressCondition}
use Rattle.run_events.specs.declared.cancel.CancelReason.{CancelReason}
use Rattle.run_events.specs.declared.cancel.CancelReason.TheVariants.{SetupScriptFailure, TestFailure, ReportError}
use Rattle.run_events.specs.declared.cancel.CancelReason.TheVariants.{GlobalTimeout, TestFailureImmediate}
use Rattle.run_events.specs.declared.cancel.CancelReason.TheVariants.{Signal as BySignal, Interrupt, SecondSignal}
use Rattle.run_events.specs.declared.events.ReporterEvent.{ReporterEvent}
use Rattle.run_events.specs.declared.events.ReporterEvent.TheVariants.{Tick, Test}
use Rattle.run_events.specs.declared.events.TestEventKind.{TestEventKind}
use Rattle.run_events.specs.declared.events.TestEventKind.TheVariants.{RunPaused, RunContinued, InfoStarted}
use Rattle.run_events.specs.declared.events.TestEventKind.TheVariants.{InfoResponse as InfoAnswer, InfoFinished}
use Rattle.run_events.specs.declared.events.TestEventKind.TheVariants.{InputEnter}
use Rattle.run_events.specs.Hearing.{heard_key}
use Rattle.run_events.specs.declared.message.Message.{Message}
use Rattle.run_events.specs.declared.message.Message.TheVariants.{ScriptStart, Start, Retry}
use Rattle.run_events.specs.declared.settings.Settings.{Settings}
use Rattle.run_events.specs.declared.turn.Turn.{Turn}
use Rattle.run_model.specs.declared.dispatcher_view.DispatcherView.{DispatcherView}
use Rattle.run_model.specs.declared.dispatcher_view.Tally.{Tally}
use Rattle.run_model.specs.declared.entry.Entry.{Entry}
use Rattle.run_model.specs.declared.happening.Happening.{Happening}
use Rattle.run_model.specs.Admission.{Newcomer, newcomer}
use Rattle.run_model.specs.Board.{Board, Deed, board, deed_events}
use Rattle.run_model.specs.Cancel.{cancel_event, cancelled_for, cause_of, is_above}
use Rattle.run_model.specs.Dispatch.{Moment, event, go_of, having_told, heard_by, may_go, moment_by, told_of}
use Rattle.run_model.specs.Turns.{admission, answer_to, begins_as, deed_on, delivered_as, delivery, done_by, enabled}
use Rattle.run_model.specs.Turns.{ends_as, event_of, index_of, live_in, oldest_of, starting, sub_run_finished}
use Rattle.run_model.specs.Turns.{sub_run_started, stops_with, takes_turn, tally_with, turn_of_unit, run_finished}
use Rattle.run_model.specs.Turns.{stress_finale}
use Rattle.run_model.specs.Words.{clock, is_over, sub_run, tally}
use Rattle.run_laws.proofs.board.ByTurn.{by_turn}
use Rattle.run_laws.proofs.board.DeedFits.{Does}
use Rattle.run_laws.proofs.board.Deeds.{base_of}
use Rattle.run_laws.proofs.board.Kept.{HoldsAfter, does_after}
use Rattle.run_laws.proofs.board.OnBoard.{frame_of, moment_in}
use Rattle.run_laws.proofs.told.Asides.{IsAside, IsAsideEvent, IsAsideKind, answer_aside, by_signal, inform_aside}
use Rattle.run_laws.proofs.told.Asides.{key_aside, tick_aside}
use Rattle.run_laws.proofs.told.Bounds.{begin_cases, end_cases}
use Rattle.run_laws.proofs.told.Cancels.{cancel_for}
use Rattle.run_laws.proofs.told.CauseLemmas.{told_is}
use Rattle.run_audit_model.specs.Parts.{IsInner}
use Rattle.run_audit_model.specs.Seen.{as_audited, audited_kind}
use Rattle.run_audit_model.specs.declared.audit_event.AuditEvent.{AuditEvent}
use Rattle.run_audit_model.specs.declared.audit_event.AuditEvent.TheVariants as seen
use Rattle.run_laws_audit.proofs.ShapeLemmas.{back, front}

-- an event that stands within a sub-run
abbrev pub IsWithin : ReporterEvent → Type 0
IsWithin e = IsInner (as_audited e)

abbrev pub TellsWithin : Option ReporterEvent → Type 0
TellsWithin o = IfSome o IsWithin

-- what the delivery of a message tells
when : (now : Moment) (go : Bool) (kind : TestEventKind) → IsInner (audited_kind kind)
    → TellsWithin (option_map (event now) (if go then Some kind else None))
when now true kind inner = inner
when now false kind inner = tt

message_within : (now : Moment) (t : Tally) (m : Message) → TellsWithin (option_map (event now) (told_of t m))
message_within now t (ScriptStart start) = when now (may_go t) _ tt
message_within now t (Start start) = when now (may_go t) _ tt
message_within now t (Retry retry) = when now (may_go t) _ tt
message_within now t m = tt

delivery_within : (b : Board) (q : List Message) → TellsWithin (delivery b q).told
delivery_within b [] = tt
delivery_within b (m ∷ rest) =
    subst TellsWithin (sym (told_is (moment_by b.clock b.dispatcher.watch) (tally_with b (event_of b m))
    (cause_of b.dispatcher.rules (tally_with b (event_of b m)) m)
    (delivered_as b m (answer_to b (starting m) (go_of b.dispatcher.tally m)))))
    (message_within (moment_by b.clock b.dispatcher.watch) b.dispatcher.tally m)

admission_within : (o : Option Newcomer) → TellsWithin (admission o).told
admission_within None = tt
admission_within (Some new) = tt

aside_within : (d : Deed) → IsAside d → TellsWithin d.told
aside_within d aside = by_told d.told aside.told
  where
    by_kind : (kind : TestEventKind) → IsAsideKind kind → IsInner (audited_kind kind)
    by_kind (RunPaused event) h = tt
    by_kind (RunContinued event) h = tt
    by_kind (InfoStarted event) h = tt
    by_kind (InfoAnswer event) h = tt
    by_kind (InfoFinished missing) h = tt
    by_kind (InputEnter event) h = tt
    by_kind kind h = absurd h

    by_told : (o : Option ReporterEvent) → IfSome o IsAsideEvent → TellsWithin o
    by_told None h = tt
    by_told (Some Tick) h = tt
    by_told (Some (Test event)) h = by_kind event.kind h

-- so what a turn tells by itself that neither begins nor ends a sub-run
own_within : (p : Settings) (past : List Happening) (turn : Turn) → enabled p past turn ≡ true
    → (deed_on p (board p past) turn).begins ≡ false → (deed_on p (board p past) turn).ends ≡ false
    → TellsWithin (deed_on p (board p past) turn).told
own_within p past turn en =
    by_turn (λ turn named. takes_turn p b turn named ≡ true → (done_by p b turn named).begins ≡ false
    → (done_by p b turn named).ends ≡ false → TellsWithin (done_by p b turn named).told)
    (record {
      begin = λ en. begin_cases (λ d. d.begins ≡ false → d.ends ≡ false → TellsWithin d.told)
          (λ told after own later begun ended. cc) b.clock b.dispatcher;
      admit = λ en begun ended. admission_within (newcomer p (index_of b.dispatcher) b.units);
      deliver = λ en begun ended. delivery_within b b.queue;
      named = λ turn k to other en begun ended. tt;
      clock = λ ns en begun ended. tt;
      signal = λ signal en begun ended. by_signal (λ d. TellsWithin d.told) b.clock (live_in b.units) b.dispatcher
          signal (heard_by b.dispatcher.rules.hearing signal) tt aside_within;
      global_due = λ en begun ended. tt;
      report_cancel = λ en begun ended. tt;
      end = λ en. end_cases (λ d. d.begins ≡ false → d.ends ≡ false → TellsWithin d.told)
          (λ told after over own later begun ended. cc) b.clock b.dispatcher;
      key = λ key en begun ended. aside_within _ (key_aside b.clock (live_in b.units) b.dispatcher
          (heard_key b.dispatcher.rules.hearing.input key));
      tick = λ en begun ended. aside_within _ tick_aside;
      stop_wait_due = λ en begun ended. tt;
      answer = λ en begun ended. aside_within _ (answer_aside b (oldest_of b.answers));
      info_due = λ en begun ended. aside_within _ (inform_aside b.clock b.dispatcher);
    })
    turn (second_so (not (is_over past)) (takes_turn p b turn (turn_of_unit turn)) en)
  where
    b : Board
    b = board p past

-- and after that
cause_within : (now : Moment) (t : Tally) (cause : Option CancelReason) → TellsWithin (cancel_for now t cause)
cause_within now t None = tt
cause_within now t (Some r) = by_rank (is_above t.stats.cancel_reason r)
  where
    of_reason : (r : CancelReason) → TellsWithin (Some (event now (cancel_event r (cancelled_for r t))))
    of_reason SetupScriptFailure = tt
    of_reason TestFailure = tt
    of_reason ReportError = tt
    of_reason GlobalTimeout = tt
    of_reason TestFailureImmediate = tt
    of_reason BySignal = tt
    of_reason Interrupt = tt
    of_reason SecondSignal = tt

    by_rank : (b : Bool) → TellsWithin (if b then Some (event now (cancel_event r (cancelled_for r t))) else None)
    by_rank true = of_reason r
    by_rank false = tt

each_within : (o : Option ReporterEvent) → TellsWithin o → All IsWithin (option_to_list o)
each_within None h = All-nil IsWithin
each_within (Some e) h = All-cons IsWithin e [] h (All-nil IsWithin)

-- a turn that neither begins nor ends a sub-run tells what stands within one
pub tells_within : (p : Settings) (past : List Happening) (e : Entry) → HoldsAfter p past
    → enabled p past e.turn ≡ true → (deed_on p (board p past) e.turn).begins ≡ false
    → (deed_on p (board p past) e.turn).ends ≡ false
    → All IsWithin (deed_events (deed_on p (board p past) e.turn))
tells_within p past e h en begun ended =
    All-append IsWithin (option_to_list d.told) (option_to_list d.after)
    (each_within d.told (own_within p past e.turn en begun ended))
    (each_within d.after (subst TellsWithin (sym (does.marks.cancel (both d.begins d.ends begun ended)))
    (cause_within (moment_in (clock past) (frame_of p past))
    (having_told (tally p (base_of d.begins (sub_run past))) d.told) d.cause)))
  where
    d : Deed
    d = deed_on p (board p past) e.turn

    does : Does p (frame_of p past) (clock past) (base_of d.begins (sub_run past)) d
    does = does_after p past e h en

    both : (a b : Bool) → a ≡ false → b ≡ false → (a || b) ≡ false
    both false b first second = second
    both true b first second = cc

-- a begin tells what opens the run, if it is the first, and what opens the sub-run
pub begin-seen : (now : ℕ) (d : DispatcherView) (first : Bool)
    → map as_audited (deed_events (begins_as now d first))
    ≡ (if first then seen.RunStarted ∷ [] else []) ++ front (is_some d.head.stress)
begin-seen now d first = by_first first
  where
    starts : (o : Option StressCondition)
        → map as_audited (option_to_list (option_map (sub_run_started now d) o)) ≡ front (is_some o)
    starts None = refl
    starts (Some condition) = refl

    with_none : (o : Option StressCondition)
        → map as_audited (option_to_list (option_map (sub_run_started now d) o) ++ []) ≡ front (is_some o)
    with_none None = refl
    with_none (Some condition) = refl

    by_first : (first : Bool) → map as_audited (deed_events (begins_as now d first))
        ≡ (if first then seen.RunStarted ∷ [] else []) ++ front (is_some d.head.stress)
    by_first true = ap (λ es. seen.RunStarted ∷ es) (starts d.head.stress)
    by_first false = with_none d.head.stress

-- the end of the run
abbrev pub finish : Bool → List AuditEvent
finish true = seen.RunFinished ∷ []
finish false = []

-- an end tells what closes the sub-run, and the end of the run where that is over
pub end-seen : (now : ℕ) (d : DispatcherView) (o : Option StressCondition)
    → map as_audited (deed_events (ends_as now d o)) ≡ back (is_some o) ++ finish (ends_as now d o).over
end-seen now d None = refl
end-seen now d (Some condition) = by_stop (stops_with now d condition)
  where
    by_stop : (b : Bool) → map as_audited (option_to_list (Some (sub_run_finished now d condition))
        ++ option_to_list (if b then Some (run_finished now d (stress_finale d condition)) else None))
        ≡ (seen.SubRunFinished ∷ []) ++ finish b
    by_stop true = refl
    by_stop false = refl
