-- The events of units tell the messages that are delivered, the oldest first.
use Rattle.std.proofs.Common.{◌≡◌, ℕ, ◌||◌, List, [], ◌∷◌, ◌++◌, Bool, true, false, if◌then◌else◌, not, Option, Some}
use Rattle.std.proofs.Common.{None, is_none, option_map, option_to_list, filter_map, refl, ap, sym, subst, ◌∙◌, arith}
use Rattle.std.proofs.Common.{length-append}
use Rattle.std.specs.Cmp.{second_so}
use Rattle.std.specs.Prelude.{IfSome}
use Rattle.std.specs.List.{All, cons_option}
use Rattle.std.proofs.lemmas.List.Elements.{filter_map-append, All-nil, All-cons, All-append, All-drop, All-head}
use Rattle.std.proofs.lemmas.List.{get_or_append_left}
use Rattle.run_events.specs.declared.settings.Settings.{Settings}
use Rattle.run_events.specs.declared.events.ReporterEvent.{ReporterEvent}
use Rattle.run_events.specs.declared.events.ReporterEvent.TheVariants.{Tick, Test}
use Rattle.run_events.specs.declared.events.TestEventKind.{TestEventKind}
use Rattle.run_events.specs.declared.events.TestEventKind.TheVariants as kinds
use Rattle.run_events.specs.declared.message.Message.{Message}
use Rattle.run_events.specs.declared.message.Message.TheVariants.{ScriptStart, ScriptSlow, ScriptFinish, Start, Slow}
use Rattle.run_events.specs.declared.message.Message.TheVariants.{AttemptFailed, Retry, Skip, Finish}
use Rattle.run_events.specs.declared.turn.Turn.{Turn}
use Rattle.run_model.specs.declared.dispatcher_view.Tally.{Tally}
use Rattle.run_model.specs.declared.entry.Entry.{Entry}
use Rattle.run_model.specs.declared.happening.Happening.{Happening}
use Rattle.run_model.specs.Admission.{Newcomer, newcomer}
use Rattle.run_model.specs.Board.{Board, Deed, deed_events, said}
use Rattle.run_model.specs.Cancel.{Cause, cause_of, caused, event_refused, signal_cause, time_is_up}
use Rattle.run_model.specs.Dispatch.{Moment, heard_by, event, may_go, retried_event, started_event, with_start}
use Rattle.run_model.specs.Journal.{history, IsLegalBackward}
use Rattle.run_model.specs.Turns.{admission, cancelled, deed_on, delivered_as, delivery, done_by, enabled_on, event_of}
use Rattle.run_model.specs.Turns.{live_in, nothing_done, oldest_of, starting, takes_turn, tally_with, turn_of_unit}
use Rattle.run_events.specs.Hearing.{heard_key}
use Rattle.run_model.specs.Words.{queue, reason, sent, delivered, sub_run, tally, told, units}
use Rattle.run_laws.proofs.board.ByTurn.{by_turn}
use Rattle.run_laws.proofs.told.Cancels.{IsAfter, IsAfterKind, cancel_for, cancel_is}
use Rattle.run_laws.proofs.board.Facts.{may_go-is}
use Rattle.run_laws.proofs.board.OnBoard.{board_of, board_with, moment_in}
use Rattle.run_laws.proofs.told.Asides.{IsAside, IsAsideEvent, IsAsideKind, answer_aside, by_signal, key_aside}
use Rattle.run_laws_events.proofs.ByJournal.{IsKept, by_journal}
use Rattle.run_laws.proofs.board.OnBoard.{Frame}
use Rattle.run_laws.proofs.board.OnBoard.{index_in}
use Rattle.run_laws.proofs.told.Bounds.{IsBound, IsBoundKind, IsBoundAfter, bound_after, begin_cases, end_cases}
use Rattle.std.proofs.lemmas.List.{append-nil}

-- the message whose delivery an event tells
abbrev pub message_in : TestEventKind → Option Message
message_in (kinds.SetupScriptStarted start) = Some (ScriptStart start)
message_in (kinds.SetupScriptSlow slow) = Some (ScriptSlow slow)
message_in (kinds.SetupScriptFinished finish) = Some (ScriptFinish finish)
message_in (kinds.TestStarted event) = Some (Start event.start)
message_in (kinds.TestSlow slow) = Some (Slow slow)
message_in (kinds.TestAttemptFailedWillRetry event) = Some (AttemptFailed event.failed)
message_in (kinds.TestRetryStarted event) = Some (Retry event.retry)
message_in (kinds.TestFinished event) = Some (Finish event.finish)
message_in (kinds.TestSkipped skip) = Some (Skip skip)
message_in _ = None

abbrev pub message_of : ReporterEvent → Option Message
message_of (Test event) = message_in event.kind
message_of _ = None

abbrev pub messages_of : List ReporterEvent → List Message
messages_of events = filter_map message_of events

-- a message that is delivered is told, but a start and a retry only where the unit is let go
abbrev pub is_told : Bool → Message → Bool
is_told go m = go || is_none (starting m)

abbrev pub told_from : Bool → Bool → List Message → List Message
told_from go true (m ∷ rest) = if is_told go m then m ∷ [] else []
told_from go taken q = []

-- a deed tells the oldest message where it takes that
abbrev pub TellsOldest : Bool → List Message → Deed → Type 0
TellsOldest go q d = messages_of (deed_events d) ≡ told_from go d.taken q

cancel_none : (o : Option ReporterEvent) → IsAfter o → messages_of (option_to_list o) ≡ []
cancel_none None h = refl
cancel_none (Some Tick) h = absurd h
cancel_none (Some (Test e)) h = by_kind e.kind h
  where
    by_kind : (kind : TestEventKind) → IsAfterKind kind → cons_option (message_in kind) [] ≡ []
    by_kind (kinds.RunBeginCancel cancelled) h = refl
    by_kind (kinds.RunBeginKill cancelled) h = refl
    by_kind (kinds.StressSubRunStarted progress) h = refl
    by_kind (kinds.RunFinished finished) h = refl
    by_kind kind h = absurd h

caused_tells : (go : Bool) (now : Moment) (q : List Message) (t : Tally) (o : Option Cause) (d : Deed) → d.after ≡ None
    → TellsOldest go q d → TellsOldest go q (caused now t o d)
caused_tells go now q t None d none tells = tells
caused_tells go now q t (Some c) d none tells =
    filter_map-append message_of (option_to_list d.told) (option_to_list (cancel_for now t (Some c.reason)))
    ∙ ap (λ ms. messages_of (option_to_list d.told) ++ ms) (cancel_none _ (cancel_is now t (Some c.reason))
    ∙ sym (cancel_none d.after (subst IsAfter (sym none) tt)))
    ∙ sym (filter_map-append message_of (option_to_list d.told) (option_to_list d.after)) ∙ tells

admission_tells : (go : Bool) (q : List Message) (o : Option Newcomer) → TellsOldest go q (admission o)
admission_tells go q None = refl
admission_tells go q (Some new) = refl

told_if : (now : Moment) (kind : TestEventKind) (m : Message) (go : Bool) → message_in kind ≡ Some m
    → is_none (starting m) ≡ false
    → messages_of (option_to_list (option_map (event now) (if go then Some kind else None)) ++ [])
    ≡ (if is_told go m then m ∷ [] else [])
told_if now kind m true is start = rw is refl
told_if now kind m false is start = rw start refl

told_so : (now : Moment) (kind : TestEventKind) (m : Message) (go : Bool) → message_in kind ≡ Some m
    → is_none (starting m) ≡ true → messages_of (event now kind ∷ []) ≡ (if is_told go m then m ∷ [] else [])
told_so now kind m true is start = rw is refl
told_so now kind m false is start = rw (is, start) refl

delivery_tells : (p : Settings) (f : Frame) (now : ℕ) (run : List Happening) (q : List Message)
    → TellsOldest (may_go (tally p run)) q (delivery (board_of p f now run) q)
delivery_tells p f now run [] = refl
delivery_tells p f now run (ScriptStart start ∷ rest) =
    told_if (moment_in now f) (kinds.SetupScriptStarted start) (ScriptStart start) (may_go (tally p run)) refl refl
delivery_tells p f now run (Start start ∷ rest) =
    told_if (moment_in now f) (started_event start (with_start (tally p run))) (Start start) (may_go (tally p run))
    refl refl
delivery_tells p f now run (Retry retry ∷ rest) =
    told_if (moment_in now f) (retried_event retry (tally p run)) (Retry retry) (may_go (tally p run)) refl refl
delivery_tells p f now run (ScriptSlow slow ∷ rest) =
    told_so (moment_in now f) (kinds.SetupScriptSlow slow) (ScriptSlow slow) (may_go (tally p run)) refl refl
delivery_tells p f now run (Slow slow ∷ rest) =
    told_so (moment_in now f) (kinds.TestSlow slow) (Slow slow) (may_go (tally p run)) refl refl
delivery_tells p f now run (Skip skip ∷ rest) =
    told_so (moment_in now f) (kinds.TestSkipped skip) (Skip skip) (may_go (tally p run)) refl refl
delivery_tells p f now run (AttemptFailed failure ∷ rest) =
    told_so (moment_in now f)
    (kinds.TestAttemptFailedWillRetry (record { failed = failure; running = (tally p run).running }))
    (AttemptFailed failure) (may_go (tally p run)) refl refl
delivery_tells p f now run (Finish finish ∷ rest) =
    let b : Board = board_of p f now run in
    let tells : Option ReporterEvent = event_of b (Finish finish) in
    caused_tells (may_go (tally p run)) (moment_in now f) (Finish finish ∷ rest) (tally_with b tells)
    (cause_of b.dispatcher.rules (tally_with b tells) (Finish finish)) (delivered_as b (Finish finish) nothing_done)
    refl
    (by_go (may_go (tally p run)))
  where
    by_go : (go : Bool) → Finish finish ∷ [] ≡ (if is_told go (Finish finish) then Finish finish ∷ [] else [])
    by_go true = refl
    by_go false = refl
delivery_tells p f now run (ScriptFinish finish ∷ rest) =
    let b : Board = board_of p f now run in
    let tells : Option ReporterEvent = event_of b (ScriptFinish finish) in
    caused_tells (may_go (tally p run)) (moment_in now f) (ScriptFinish finish ∷ rest) (tally_with b tells)
    (cause_of b.dispatcher.rules (tally_with b tells) (ScriptFinish finish))
    (delivered_as b (ScriptFinish finish) nothing_done) refl (by_go (may_go (tally p run)))
  where
    by_go : (go : Bool)
        → ScriptFinish finish ∷ [] ≡ (if is_told go (ScriptFinish finish) then ScriptFinish finish ∷ [] else [])
    by_go true = refl
    by_go false = refl

aside_tells : (go : Bool) (q : List Message) (d : Deed) → IsAside d → TellsOldest go q d
aside_tells go q d aside = rw (aside.taken, aside.cancel) (by_told d.told aside.told)
  where
    by_kind : (kind : TestEventKind) → IsAsideKind kind → message_in kind ≡ None
    by_kind (kinds.RunPaused event) h = refl
    by_kind (kinds.RunContinued event) h = refl
    by_kind (kinds.InfoStarted event) h = refl
    by_kind (kinds.InfoResponse event) h = refl
    by_kind (kinds.InfoFinished missing) h = refl
    by_kind (kinds.InputEnter event) h = refl
    by_kind kind h = absurd h

    by_told : (o : Option ReporterEvent) → IfSome o IsAsideEvent → messages_of (option_to_list o ++ []) ≡ []
    by_told None h = refl
    by_told (Some Tick) h = refl
    by_told (Some (Test event)) h = rw (by_kind event.kind h) refl

-- the begin and the end of a sub-run tell none
bounds_tell : (told after : Option ReporterEvent) → IsBound told → IsBoundAfter after
    → messages_of (option_to_list told ++ option_to_list after) ≡ []
bounds_tell told after own later =
    filter_map-append message_of (option_to_list told) (option_to_list after)
    ∙ ap (λ ms. messages_of (option_to_list told) ++ ms) (cancel_none after (bound_after after later))
    ∙ append-nil (messages_of (option_to_list told)) ∙ by_told told own
  where
    by_kind : (kind : TestEventKind) → IsBoundKind kind → cons_option (message_in kind) [] ≡ []
    by_kind (kinds.RunStarted s) h = refl
    by_kind (kinds.StressSubRunStarted s) h = refl
    by_kind (kinds.StressSubRunFinished s) h = refl
    by_kind (kinds.RunFinished s) h = refl
    by_kind kind h = absurd h

    by_told : (o : Option ReporterEvent) → IsBound o → messages_of (option_to_list o) ≡ []
    by_told None h = refl
    by_told (Some Tick) h = absurd h
    by_told (Some (Test e)) h = by_kind e.kind h

pub tells_oldest : (p : Settings) (f : Frame) (refused : Bool) (now : ℕ) (run : List Happening) (turn : Turn)
    → enabled_on p (board_with p refused f now run) turn ≡ true
    → TellsOldest (may_go (tally p run)) (queue run) (deed_on p (board_with p refused f now run) turn)
tells_oldest p f refused now run turn en =
    by_turn (λ turn named. takes_turn p b turn named ≡ true → TellsOldest go (queue run) (done_by p b turn named))
    (record {
      begin = λ en. begin_cases (TellsOldest go (queue run))
          (λ told after own later. bounds_tell told after own later) now
          b.dispatcher;
      admit = λ en. admission_tells go (queue run) (newcomer p (index_in p f) (units p run));
      deliver = λ en. delivery_tells p f now run (queue run);
      named = λ turn k to other en. refl;
      clock = λ ns en. refl;
      signal = λ signal en. by_signal (TellsOldest go (queue run)) now (live_in b.units) b.dispatcher signal
          (heard_by b.dispatcher.rules.hearing signal) (cancels (signal_cause b.dispatcher.causes.signals signal))
          (aside_tells go (queue run));
      global_due = λ en. cancels time_is_up;
      report_cancel = λ en. cancels event_refused;
      end = λ en. end_cases (TellsOldest go (queue run)) (λ told after over own later. bounds_tell
          told after own later) now
          b.dispatcher;
      key = λ key en. aside_tells go (queue run) _ (key_aside now (live_in b.units) b.dispatcher
          (heard_key b.dispatcher.rules.hearing.input key));
      tick = λ en. refl;
      stop_wait_due = λ en. refl;
      answer = λ en. aside_tells go (queue run) _ (answer_aside b (oldest_of b.answers));
      info_due = λ en. refl;
    })
    turn (second_so (not f.over) (takes_turn p b turn (turn_of_unit turn)) en)
  where
    b : Board
    b = board_with p refused f now run

    go : Bool
    go = may_go (tally p run)

    cancels : (cause : Cause) → TellsOldest go (queue run) (cancelled b cause)
    cancels cause =
        caused_tells go (moment_in now f) (queue run) b.dispatcher.tally (Some cause) nothing_done refl refl

-- so what was told after one more turn is told of the oldest message
pub told-more : (p : Settings) (f : Frame) (refused : Bool) (now : ℕ) (run : List Happening) (e : Entry)
    → enabled_on p (board_with p refused f now run) e.turn ≡ true
    → messages_of (told (said now e (deed_on p (board_with p refused f now run) e.turn) ∷ run))
    ≡ messages_of (told run) ++ told_from (is_none (reason run))
    (deed_on p (board_with p refused f now run) e.turn).taken (queue run)
told-more p f refused now run e en =
    filter_map-append message_of (told run) (deed_events (deed_on p (board_with p refused f now run) e.turn))
    ∙ ap (λ ms. messages_of (told run) ++ ms) (tells_oldest p f refused now run e.turn en
    ∙ ap (λ go. told_from go (deed_on p (board_with p refused f now run) e.turn).taken (queue run))
    (may_go-is p run))

-- what holds of each message that was sent holds of each that was told
among_from : (P : Message → Type 0) (go taken : Bool) (q : List Message) → All P q → All P (told_from go taken q)
among_from P go true [] all = All-nil P
among_from P go true (m ∷ rest) all = by_told (is_told go m)
  where
    by_told : (b : Bool) → All P (if b then m ∷ [] else [])
    by_told true = All-cons P m [] (All-head P m rest all) (All-nil P)
    by_told false = All-nil P
among_from P go false q all = All-nil P

pub All-before : {X : Type 0} (P : X → Type 0) (xs ys : List X) → All P (xs ++ ys) → All P xs
All-before P xs ys all k d within =
    subst P (get_or_append_left xs ys d k within) (all k d (omega (arith, length-append xs ys)))

among_kept : (p : Settings) (P : Message → Type 0)
    → IsKept p (λ run. All P (sent run) → All P (messages_of (told run)))
among_kept p P f refused now run e h en does was all =
    subst (All P) (sym (told-more p f refused now run e en))
    (All-append P (messages_of (told run)) _ (was before)
    (among_from P (is_none (reason run)) (deed_on p (board_with p refused f now run) e.turn).taken (queue run)
    (All-drop P (delivered run) (sent run) before)))
  where
    before : All P (sent run)
    before = All-before P (sent run) (option_to_list (deed_on p (board_with p refused f now run) e.turn).sent) all

pub told_among : (p : Settings) (P : Message → Type 0) (backward : List Entry) → IsLegalBackward p backward
    → All P (sent (sub_run (history p backward))) → All P (messages_of (told (sub_run (history p backward))))
told_among p P backward legal =
    by_journal p (λ run. All P (sent run) → All P (messages_of (told run))) (λ all. All-nil P) (among_kept p P) backward
    legal
