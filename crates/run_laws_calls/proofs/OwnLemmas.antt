-- What each turn tells by itself: nothing of a cause, and of a unit by its number.
use Rattle.std.proofs.Common.{◌≡◌, ℕ, ◌<◌, ◌≤◌, List, [], ◌∷◌, Bool, true, false, not, if◌then◌else◌, Option, Some}
use Rattle.std.proofs.Common.{None, is_some, option_map, option_and_then, option_to_list, refl, sym, subst, arith, ◌||◌}
use Rattle.std.specs.Prelude.{IfSome}
use Rattle.std.specs.Cmp.{second_so}
use Rattle.std.specs.List.{All, list_any}
use Rattle.std.proofs.lemmas.Bool.Decides.{nat_tests}
use Rattle.std.proofs.lemmas.List.Elements.{All-drop, All-head}
use Rattle.run_events.specs.declared.events.ReporterEvent.{ReporterEvent}
use Rattle.run_events.specs.declared.events.ReporterEvent.TheVariants.{Tick, Test}
use Rattle.run_events.specs.declared.events.TestEventKind.{TestEventKind}
use Rattle.run_events.specs.declared.events.TestEventKind.TheVariants.{RunBeginCancel, RunBeginKill, RunPaused}
use Rattle.run_events.specs.declared.events.TestEventKind.TheVariants.{RunStarted, RunFinished, StressSubRunStarted}
use Rattle.run_events.specs.declared.events.TestEventKind.TheVariants.{StressSubRunFinished}
use Rattle.run_events.specs.declared.cancel.CancelReason.{CancelReason}
use Rattle.run_events.specs.declared.cancel.CancelReason.TheVariants.{SetupScriptFailure, TestFailure, ReportError}
use Rattle.run_events.specs.declared.cancel.CancelReason.TheVariants.{GlobalTimeout, TestFailureImmediate}
use Rattle.run_events.specs.declared.cancel.CancelReason.TheVariants.{Signal as BySignal, Interrupt, SecondSignal}
use Rattle.run_events.specs.declared.events.TestEventKind.TheVariants.{RunContinued, InfoStarted, InfoFinished}
use Rattle.run_events.specs.declared.events.TestEventKind.TheVariants.{InfoResponse as InfoAnswer, InputEnter}
use Rattle.run_events.specs.Hearing.{heard_key}
use Rattle.run_events.specs.declared.message.Message.{Message}
use Rattle.run_events.specs.declared.message.Message.TheVariants.{ScriptStart, ScriptSlow, ScriptFinish, Start, Slow}
use Rattle.run_events.specs.declared.message.Message.TheVariants.{AttemptFailed, Retry, Skip, Finish}
use Rattle.run_events.specs.declared.settings.Settings.{Settings}
use Rattle.run_events.specs.declared.turn.Turn.{Turn}
use Rattle.run_model.specs.declared.dispatcher_view.Tally.{Tally}
use Rattle.run_model.specs.declared.happening.Happening.{Happening}
use Rattle.run_model.specs.Admission.{Newcomer, is_script, newcomer, scripts_in}
use Rattle.run_model.specs.Board.{Board, Deed, board}
use Rattle.run_model.specs.Cancel.{Cause, cancel_event, cancelled_for, cause_of, caused, is_above}
use Rattle.run_model.specs.Dispatch.{Moment, event, go_of, having_told, heard_by, may_go, moment_by, told_of}
use Rattle.run_model.specs.Turns.{admission, answer_to, deed_on, delivered_as, delivery, done_by, enabled, event_of}
use Rattle.run_model.specs.Turns.{index_of, live_in, oldest_of, starting, takes_turn, tally_with, turn_of_unit}
use Rattle.run_model.specs.Words.{delivered, is_over, sent, sub_run, tally}
use Rattle.run_laws.proofs.board.ByTurn.{by_turn}
use Rattle.run_laws.proofs.told.Asides.{IsAside, IsAsideEvent, IsAsideKind, answer_aside, by_signal, inform_aside}
use Rattle.run_laws.proofs.told.Asides.{key_aside, tick_aside}
use Rattle.run_laws.proofs.told.Bounds.{IsBound, IsBoundAfter, IsBoundAfterKind, IsBoundKind, begin_cases, end_cases}
use Rattle.run_laws.proofs.told.Cancels.{IsAfter, IsAfterKind, cancel_for}
use Rattle.run_laws.proofs.board.DeedFits.{Marks}
use Rattle.run_laws.proofs.board.OnBoard.{Frame, moment_in}
use Rattle.run_laws.specs.Cancels.{reason_told}
use Rattle.run_laws.proofs.board.Holds.{IsOfKind}
use Rattle.run_laws.proofs.board.Kept.{HoldsAfter}
use Rattle.run_laws.proofs.board.Facts.{test_above}
use Rattle.run_laws.proofs.board.Facts.{script_below}
use Rattle.run_laws_calls.specs.Numbers.{script_number, test_number}
use Rattle.run_laws_calls.specs.Stops.{tells_cancel}
use Rattle.run_laws.proofs.told.CauseLemmas.{told_is}

-- an event of a script has the number of one, and one of a test has not
pub record HasKind (p : Settings) (e : ReporterEvent) : Type 0 where
  pub script : IfSome (script_number e) (λ k. k < scripts_in p)
  pub test : IfSome (test_number e) (λ k. scripts_in p ≤ k)

-- an event that tells of no cause, and of a unit by its number
pub record IsOwn (p : Settings) (e : ReporterEvent) : Type 0 where
  pub calm : tells_cancel e ≡ false
  pub number : HasKind p e

-- what the delivery of a message tells, by its kind
when : (p : Settings) (now : Moment) (go : Bool) (kind : TestEventKind) → IsOwn p (event now kind)
    → IfSome (option_map (event now) (if go then Some kind else None)) (IsOwn p)
when p now true kind own = own
when p now false kind own = tt

message_own : (p : Settings) (now : Moment) (t : Tally) (m : Message) → IsOfKind p m
    → IfSome (option_map (event now) (told_of t m)) (IsOwn p)
message_own p now t (ScriptStart start) kind =
    when p now (may_go t) _ (record {
      calm = refl;
      number = record { script = script_below p start.script.unit kind; test = tt };
    })
message_own p now t (ScriptSlow slow) kind =
    record { calm = refl; number = record { script = script_below p slow.script.unit kind; test = tt } }
message_own p now t (ScriptFinish finish) kind =
    record { calm = refl; number = record { script = script_below p finish.script.unit kind; test = tt } }
message_own p now t (Start start) kind =
    when p now (may_go t) _ (record {
      calm = refl;
      number = record { script = tt; test = test_above p start.test.unit kind };
    })
message_own p now t (Slow slow) kind =
    record { calm = refl; number = record { script = tt; test = test_above p slow.test.unit kind } }
message_own p now t (AttemptFailed failure) kind =
    record { calm = refl; number = record { script = tt; test = test_above p failure.test.unit kind } }
message_own p now t (Retry retry) kind =
    when p now (may_go t) _ (record {
      calm = refl;
      number = record { script = tt; test = test_above p retry.start.test.unit kind };
    })
message_own p now t (Skip skip) kind =
    record { calm = refl; number = record { script = tt; test = test_above p skip.test.unit kind } }
message_own p now t (Finish finish) kind =
    record { calm = refl; number = record { script = tt; test = test_above p finish.test.unit kind } }

-- a cause leaves what else is told
delivery_own : (p : Settings) (b : Board) (q : List Message) → All (IsOfKind p) q
    → IfSome (delivery b q).told (IsOwn p)
delivery_own p b [] kinds = tt
delivery_own p b (m ∷ rest) kinds =
    subst (λ o. IfSome o (IsOwn p)) (sym (told_is (moment_by b.clock b.dispatcher.watch) (tally_with b (event_of b m))
    (cause_of b.dispatcher.rules (tally_with b (event_of b m)) m)
    (delivered_as b m (answer_to b (starting m) (go_of b.dispatcher.tally m)))))
    (message_own p (moment_by b.clock b.dispatcher.watch) b.dispatcher.tally m (All-head (IsOfKind p) m rest kinds))

admission_own : (p : Settings) (o : Option Newcomer) → IfSome (admission o).told (IsOwn p)
admission_own p None = tt
admission_own p (Some new) = tt

-- a deed of a pause, a round, a key or a tick
aside_own : (p : Settings) (d : Deed) → IsAside d → IfSome d.told (IsOwn p)
aside_own p d aside = by_told d.told aside.told
  where
    by_kind : (kind : TestEventKind) → IsAsideKind kind → (clock elapsed : ℕ)
        → IsOwn p (Test (record { clock = clock; elapsed = elapsed; kind = kind }))
    by_kind (RunPaused event) h clock elapsed = record { calm = refl; number = record { script = tt; test = tt } }
    by_kind (RunContinued event) h clock elapsed = record { calm = refl; number = record { script = tt; test = tt } }
    by_kind (InfoStarted event) h clock elapsed = record { calm = refl; number = record { script = tt; test = tt } }
    by_kind (InfoAnswer event) h clock elapsed = record { calm = refl; number = record { script = tt; test = tt } }
    by_kind (InfoFinished missing) h clock elapsed = record { calm = refl; number = record { script = tt; test = tt } }
    by_kind (InputEnter event) h clock elapsed = record { calm = refl; number = record { script = tt; test = tt } }
    by_kind kind h clock elapsed = absurd h

    by_told : (o : Option ReporterEvent) → IfSome o IsAsideEvent → IfSome o (IsOwn p)
    by_told None h = tt
    by_told (Some Tick) h = record { calm = refl; number = record { script = tt; test = tt } }
    by_told (Some (Test event)) h = by_kind event.kind h event.clock event.elapsed

-- what is told where a sub-run begins or ends
bound_own : (p : Settings) (o : Option ReporterEvent) → IsBound o → IfSome o (IsOwn p)
bound_own p None h = tt
bound_own p (Some Tick) h = absurd h
bound_own p (Some (Test event)) h = by_kind event.kind h
  where
    by_kind : (kind : TestEventKind) → IsBoundKind kind → IsOwn p (Test (record event { kind = kind }))
    by_kind (RunStarted e) h = record { calm = refl; number = record { script = tt; test = tt } }
    by_kind (StressSubRunStarted e) h = record { calm = refl; number = record { script = tt; test = tt } }
    by_kind (StressSubRunFinished e) h = record { calm = refl; number = record { script = tt; test = tt } }
    by_kind (RunFinished e) h = record { calm = refl; number = record { script = tt; test = tt } }
    by_kind kind h = absurd h

-- so what each enabled turn tells
pub own : (p : Settings) (past : List Happening) (turn : Turn) → HoldsAfter p past → enabled p past turn ≡ true
    → IfSome (deed_on p (board p past) turn).told (IsOwn p)
own p past turn h en =
    by_turn (λ turn named. takes_turn p b turn named ≡ true → IfSome (done_by p b turn named).told (IsOwn p))
    (record {
      begin = λ en. begin_cases (λ d. IfSome d.told (IsOwn p)) (λ told after own later. bound_own p told own) b.clock
          b.dispatcher;
      admit = λ en. admission_own p (newcomer p (index_of b.dispatcher) b.units);
      deliver = λ en. delivery_own p b b.queue
          (All-drop (IsOfKind p) (delivered (sub_run past)) (sent (sub_run past)) h.kinds);
      named = λ turn k to other en. tt;
      clock = λ ns en. tt;
      signal = λ signal en. by_signal (λ d. IfSome d.told (IsOwn p)) b.clock (live_in b.units) b.dispatcher signal
          (heard_by b.dispatcher.rules.hearing signal) tt (aside_own p);
      global_due = λ en. tt;
      report_cancel = λ en. tt;
      end = λ en. end_cases (λ d. IfSome d.told (IsOwn p)) (λ told after over own later. bound_own p told own) b.clock
          b.dispatcher;
      key = λ key en. aside_own p _ (key_aside b.clock (live_in b.units) b.dispatcher
          (heard_key b.dispatcher.rules.hearing.input key));
      tick = λ en. aside_own p _ tick_aside;
      stop_wait_due = λ en. tt;
      answer = λ en. aside_own p _ (answer_aside b (oldest_of b.answers));
      info_due = λ en. aside_own p _ (inform_aside b.clock b.dispatcher);
    })
    turn (second_so (not (is_over past)) (takes_turn p b turn (turn_of_unit turn)) en)
  where
    b : Board
    b = board p past

-- what it tells after that tells of no unit
after_kind : (p : Settings) (kind : TestEventKind) → IsAfterKind kind → (clock elapsed : ℕ)
    → HasKind p (Test (record { clock = clock; elapsed = elapsed; kind = kind }))
after_kind p (RunBeginCancel e) h clock elapsed = record { script = tt; test = tt }
after_kind p (RunBeginKill e) h clock elapsed = record { script = tt; test = tt }
after_kind p (StressSubRunStarted e) h clock elapsed = record { script = tt; test = tt }
after_kind p (RunFinished e) h clock elapsed = record { script = tt; test = tt }
after_kind p kind h clock elapsed = absurd h

pub cancel_kind : (p : Settings) (e : ReporterEvent) → IsAfter (Some e) → HasKind p e
cancel_kind p Tick h = absurd h
cancel_kind p (Test e) h = after_kind p e.kind h e.clock e.elapsed

-- and it says a reason exactly where it tells that the run is cancelled
abbrev pub SaysReason : Option ReporterEvent → Type 0
SaysReason o = list_any tells_cancel (option_to_list o) ≡ is_some (option_and_then reason_told o)

bound_reason : (o : Option ReporterEvent) → IsBoundAfter o → SaysReason o
bound_reason None h = refl
bound_reason (Some Tick) h = absurd h
bound_reason (Some (Test event)) h = by_kind event.kind h
  where
    by_kind : (kind : TestEventKind) → IsBoundAfterKind kind → SaysReason (Some (Test (record event { kind = kind })))
    by_kind (StressSubRunStarted e) h = refl
    by_kind (RunFinished e) h = refl
    by_kind kind h = absurd h

cause_reason : (now : Moment) (t : Tally) (cause : Option CancelReason) → SaysReason (cancel_for now t cause)
cause_reason now t None = refl
cause_reason now t (Some r) = by_rank (is_above t.stats.cancel_reason r)
  where
    of_reason : (r : CancelReason) → SaysReason (Some (event now (cancel_event r (cancelled_for r t))))
    of_reason SetupScriptFailure = refl
    of_reason TestFailure = refl
    of_reason ReportError = refl
    of_reason GlobalTimeout = refl
    of_reason TestFailureImmediate = refl
    of_reason BySignal = refl
    of_reason Interrupt = refl
    of_reason SecondSignal = refl

    by_rank : (b : Bool) → SaysReason (if b then Some (event now (cancel_event r (cancelled_for r t))) else None)
    by_rank true = of_reason r
    by_rank false = refl

pub says_reason : (p : Settings) (f : Frame) (now : ℕ) (run : List Happening) (d : Deed) → Marks p f now run d
    → SaysReason d.after
says_reason p f now run d marks = by_bound (d.begins || d.ends) refl
  where
    by_bound : (b : Bool) → (d.begins || d.ends) ≡ b → SaysReason d.after
    by_bound true is = bound_reason d.after (marks.bounds is).1
    by_bound false is =
        subst SaysReason (sym (marks.cancel is))
        (cause_reason (moment_in now f) (having_told (tally p run) d.told) d.cause)
