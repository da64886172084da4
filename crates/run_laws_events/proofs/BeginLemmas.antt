-- Which turns tell that the run starts.
use Rattle.std.proofs.Common.{◌≡◌, ◌||◌, List, [], ◌∷◌, ◌++◌, Bool, true, false, not, if◌then◌else◌, Option, Some}
use Rattle.std.proofs.Common.{None, is_some, option_map, option_and_then, option_to_list, reverse, refl, ap, sym, subst}
use Rattle.std.proofs.Common.{◌∙◌, ◌&&◌, ◌==◌, length}
use Rattle.std.specs.Prelude.{IfSome}
use Rattle.std.specs.Cmp.{second_so}
use Rattle.std.specs.List.{All, list_any}
use Rattle.std.proofs.lemmas.List.{reverse-append}
use Rattle.std.proofs.lemmas.List.Elements.{All-nil, All-cons, All-append}
use Rattle.std.proofs.lemmas.List.Folds.{list_any-append}
use Rattle.run_events.specs.declared.settings.Settings.{Settings}
use Rattle.run_events.specs.declared.turn.Turn.{Turn}
use Rattle.run_events.specs.declared.turn.Turn.TheVariants.{Admit, Deliver, Signal, Key, Answer}
use Rattle.run_events.specs.declared.message.Message.{Message}
use Rattle.run_events.specs.declared.message.Message.TheVariants.{ScriptStart, Start, Retry}
use Rattle.run_events.specs.declared.events.ReporterEvent.{ReporterEvent}
use Rattle.run_events.specs.declared.events.ReporterEvent.TheVariants.{Tick, Test}
use Rattle.run_events.specs.declared.events.RunStarted.{RunStarted}
use Rattle.run_events.specs.declared.events.TestEventKind.{TestEventKind}
use Rattle.run_events.specs.declared.events.TestEventKind.TheVariants.{RunBeginCancel, RunBeginKill, SetupScriptStarted}
use Rattle.run_events.specs.declared.events.TestEventKind.TheVariants.{RunPaused, RunContinued, InfoStarted}
use Rattle.run_events.specs.declared.events.TestEventKind.TheVariants.{InfoResponse as InfoAnswer, InfoFinished}
use Rattle.run_events.specs.declared.events.TestEventKind.TheVariants.{InputEnter}
use Rattle.run_events.specs.Hearing.{heard_key}
use Rattle.run_model.specs.declared.dispatcher_view.Tally.{Tally}
use Rattle.run_model.specs.declared.entry.Entry.{Entry}
use Rattle.run_model.specs.declared.happening.Happening.{Happening}
use Rattle.run_model.specs.Words.{clock, is_over, sub_run}
use Rattle.run_model.specs.Admission.{Newcomer, newcomer}
use Rattle.run_model.specs.Dispatch.{Moment, moment_by, heard_by, event, head_of, may_go, told_of, go_of}
use Rattle.run_model.specs.Dispatch.{started_event, retried_event, with_start}
use Rattle.run_model.specs.Board.{Board, Deed, board}
use Rattle.run_model.specs.Cancel.{Cause, cause_of, caused}
use Rattle.run_model.specs.Turns.{enabled_on, takes_turn, turn_of_unit, admission, starting, answer_to, event_of}
use Rattle.run_model.specs.Turns.{tally_with, delivered_as, delivery, done_by, deed_on, happening, live_in, oldest_of}
use Rattle.run_model.specs.Journal.{past_of, IsLegal, IsLegalBackward}
use Rattle.run_laws.proofs.board.ByTurn.{by_turn}
use Rattle.run_laws.proofs.told.Cancels.{IsAfter, IsAfterKind}
use Rattle.run_laws.proofs.told.Asides.{IsAside, IsAsideEvent, IsAsideKind, answer_aside, by_signal, key_aside}
use Rattle.run_laws.proofs.board.DeedFits.{Does, cancel_told}
use Rattle.run_laws.proofs.board.Kept.{does_after, holds}
use Rattle.run_laws_events.specs.RunStart.{run_start_in, run_start, is_begin, IsStartOf, TellsRunStart}
use Rattle.run_laws.proofs.board.OnBoard.{frame_of}
use Rattle.run_laws.proofs.told.Bounds.{begin_cases, end_cases}
use Rattle.run_events.specs.declared.events.TestEventKind.TheVariants.{RunFinished, StressSubRunStarted}
use Rattle.run_events.specs.declared.turn.Turn.TheVariants.{Begin, End}
use Rattle.run_commands.specs.declared.stress_count.StressCondition.{StressCondition}
use Rattle.run_events.specs.declared.events.TestEventKind.TheVariants.{RunStarted as RunStarts}
use Rattle.run_model.specs.declared.dispatcher_view.DispatcherView.{DispatcherView}
use Rattle.run_model.specs.Turns.{index_of, ends_as, sub_run_started}
use Rattle.run_model.specs.Words.{ended_runs, joined_run}
use Rattle.run_model.specs.Turns.{begins_as}
use Rattle.run_laws.proofs.told.Begins.{admission_begins}
use Rattle.run_laws.proofs.told.Begins.{delivery_begins}
use Rattle.run_laws.proofs.told.Begins.{caused_begins}

-- the start of a run that an event tells, of none or one
abbrev start_of : Option ReporterEvent → Option RunStarted
start_of o = option_and_then run_start o

-- a deed tells that the run starts exactly where the first sub-run begins with it, with the head
abbrev TellsStart : DispatcherView → Deed → Type 0
TellsStart v d = start_of d.told ≡ (if d.begins && v.sub_runs.ended == 0 then Some v.head else None)

-- the delivery of a message tells no such thing
if_going : (now : Moment) (go : Bool) (kind : TestEventKind) → run_start_in kind ≡ None
    → start_of (option_map (event now) (if go then Some kind else None)) ≡ None
if_going now true kind h = h
if_going now false kind h = refl

message_starts : (now : Moment) (t : Tally) (m : Message) → start_of (option_map (event now) (told_of t m)) ≡ None
message_starts now t (ScriptStart start) = if_going now (may_go t) (SetupScriptStarted start) refl
message_starts now t (Start start) = if_going now (may_go t) (started_event start (with_start t)) refl
message_starts now t (Retry retry) = if_going now (may_go t) (retried_event retry t) refl
message_starts now t m = refl

caused_starts : (head : DispatcherView) (now : Moment) (t : Tally) (o : Option Cause) (d : Deed) → TellsStart head d
    → TellsStart head (caused now t o d)
caused_starts head now t None d h = h
caused_starts head now t (Some cause) d h = h

delivery_starts : (b : Board) (q : List Message) → TellsStart b.dispatcher (delivery b q)
delivery_starts b [] = refl
delivery_starts b (m ∷ rest) =
    let tells : Option ReporterEvent = event_of b m in
    caused_starts b.dispatcher (moment_by b.clock b.dispatcher.watch) (tally_with b tells)
    (cause_of b.dispatcher.rules (tally_with b tells) m)
    (delivered_as b m (answer_to b (starting m) (go_of b.dispatcher.tally m)))
    (message_starts (moment_by b.clock b.dispatcher.watch) b.dispatcher.tally m)

admission_starts : (b : Board) (o : Option Newcomer) → TellsStart b.dispatcher (admission o)
admission_starts b None = refl
admission_starts b (Some new) = refl

aside_starts : (head : DispatcherView) (d : Deed) → IsAside d → TellsStart head d
aside_starts head d aside =
    by_told d.told aside.told ∙ ap (λ b. if b && head.sub_runs.ended == 0 then Some head.head else
    None) (sym aside.begins)
  where
    by_kind : (kind : TestEventKind) → IsAsideKind kind → run_start_in kind ≡ None
    by_kind (RunPaused event) h = refl
    by_kind (RunContinued event) h = refl
    by_kind (InfoStarted event) h = refl
    by_kind (InfoAnswer event) h = refl
    by_kind (InfoFinished missing) h = refl
    by_kind (InputEnter event) h = refl
    by_kind kind h = absurd h

    by_told : (o : Option ReporterEvent) → IfSome o IsAsideEvent → start_of o ≡ None
    by_told None h = refl
    by_told (Some Tick) h = refl
    by_told (Some (Test event)) h = by_kind event.kind h

starts_run : (p : Settings) (b : Board) (turn : Turn) → enabled_on p b turn ≡ true
    → TellsStart b.dispatcher (deed_on p b turn)
starts_run p b turn en =
    by_turn (λ turn named. takes_turn p b turn named ≡ true → TellsStart b.dispatcher (done_by p b turn named))
    (record {
      begin = λ en. begun (b.dispatcher.sub_runs.ended == 0);
      admit = λ en. admission_starts b (newcomer p (index_of b.dispatcher) b.units);
      deliver = λ en. delivery_starts b b.queue;
      named = λ turn k to other en. refl;
      clock = λ ns en. refl;
      signal = λ signal en. by_signal (TellsStart b.dispatcher) b.clock (live_in b.units) b.dispatcher signal
          (heard_by b.dispatcher.rules.hearing signal) refl (aside_starts b.dispatcher);
      global_due = λ en. refl;
      report_cancel = λ en. refl;
      end = λ en. ended b.dispatcher.head.stress;
      key = λ key en. aside_starts b.dispatcher _ (key_aside b.clock (live_in b.units) b.dispatcher
          (heard_key b.dispatcher.rules.hearing.input key));
      tick = λ en. refl;
      stop_wait_due = λ en. refl;
      answer = λ en. aside_starts b.dispatcher _ (answer_aside b (oldest_of b.answers));
      info_due = λ en. refl;
    })
    turn (second_so (not b.dispatcher.over) (takes_turn p b turn (turn_of_unit turn)) en)
  where
    begun : (first : Bool) → start_of (begins_as b.clock b.dispatcher first).told
        ≡ (if (begins_as b.clock b.dispatcher first).begins && first then Some b.dispatcher.head else None)
    begun true = refl
    begun false = by_stress b.dispatcher.head.stress
      where
        by_stress : (o : Option StressCondition)
            → start_of (option_map (sub_run_started b.clock b.dispatcher) o) ≡ None
        by_stress None = refl
        by_stress (Some condition) = refl

    ended : (o : Option StressCondition) → TellsStart b.dispatcher (ends_as b.clock b.dispatcher o)
    ended None = refl
    ended (Some condition) = refl

-- a sub-run begins with a begin
pub begins-is : (p : Settings) (b : Board) (turn : Turn) → (deed_on p b turn).begins ≡ is_begin turn
begins-is p b Begin = begin_cases (λ d. d.begins ≡ true) (λ told after own later. refl) b.clock b.dispatcher
begins-is p b End = end_cases (λ d. d.begins ≡ false) (λ told after over own later. refl) b.clock b.dispatcher
begins-is p b Admit = admission_begins (newcomer p (index_of b.dispatcher) b.units)
begins-is p b Deliver = delivery_begins b b.queue
begins-is p b (Signal signal) =
    by_signal (λ d. d.begins ≡ false) b.clock (live_in b.units) b.dispatcher signal
    (heard_by b.dispatcher.rules.hearing signal) refl (λ d aside. aside.begins)
begins-is p b (Key key) =
    (key_aside b.clock (live_in b.units) b.dispatcher (heard_key b.dispatcher.rules.hearing.input key)).begins
begins-is p b Answer = (answer_aside b (oldest_of b.answers)).begins
begins-is p b turn = refl

-- the event of a cause tells no such thing
cancel_starts : (o : Option ReporterEvent) → IsAfter o → start_of o ≡ None
cancel_starts None h = refl
cancel_starts (Some Tick) h = absurd h
cancel_starts (Some (Test event)) h = by_kind event.kind h
  where
    by_kind : (kind : TestEventKind) → IsAfterKind kind → run_start_in kind ≡ None
    by_kind (RunBeginCancel event) h = refl
    by_kind (RunBeginKill event) h = refl
    by_kind (StressSubRunStarted progress) h = refl
    by_kind (RunFinished finished) h = refl
    by_kind kind h = absurd h

-- what a turn tells, as a list
any_start : (o : Option ReporterEvent)
    → list_any (λ event. is_some (run_start event)) (option_to_list o) ≡ is_some (start_of o)
any_start None = refl
any_start (Some event) = or_false (is_some (run_start event))
  where
    or_false : (b : Bool) → (b || false) ≡ b
    or_false true = refl
    or_false false = refl

each_start : (p : Settings) (o : Option ReporterEvent) → IfSome (start_of o) (IsStartOf p)
    → All (λ event. IfSome (run_start event) (IsStartOf p)) (option_to_list o)
each_start p None h = All-nil (λ event. IfSome (run_start event) (IsStartOf p))
each_start p (Some event) h =
    All-cons (λ event. IfSome (run_start event) (IsStartOf p)) event [] h
    (All-nil (λ event. IfSome (run_start event) (IsStartOf p)))

head_starts : (p : Settings) (b : Bool) → IfSome (if b then Some (head_of p) else None) (IsStartOf p)
head_starts p true = record { run_id = refl; tests = refl; args = refl; profile = refl; stress = refl }
head_starts p false = tt

some_if : (head : RunStarted) (b : Bool) → is_some (if b then Some head else None) ≡ b
some_if head true = refl
some_if head false = refl

-- so each turn of a legal journal tells that the run starts exactly where it begins it
pub run_starts : (p : Settings) (journal : List Entry) (e : Entry) → IsLegal p (journal ++ e ∷ [])
    → TellsRunStart p (past_of p journal) (happening p (past_of p journal) e)
run_starts p journal e legal = record {
  exactly = list_any-append (λ event. is_some (run_start event)) (option_to_list d.told) (option_to_list d.after)
      ∙ ap (λ b. list_any (λ event. is_some (run_start event)) (option_to_list d.told) || b)
      (any_start d.after ∙ ap is_some none)
      ∙ or_false (list_any (λ event. is_some (run_start event)) (option_to_list d.told))
      ∙ any_start d.told ∙ ap is_some own ∙ some_if (head_of p) (d.begins && length (ended_runs past) == 0)
      ∙ ap (λ b. b && length (ended_runs past) == 0) begins;
  first = λ is. ap (λ b. if b then x ∷ [] else joined_run x (sub_run past)) (begins ∙ is);
  of_plan = All-append (λ event. IfSome (run_start event) (IsStartOf p)) (option_to_list d.told)
      (option_to_list d.after)
      (each_start p d.told (subst (λ o. IfSome o (IsStartOf p)) (sym own)
      (head_starts p (d.begins && length (ended_runs past) == 0))))
      (each_start p d.after (subst (λ o. IfSome o (IsStartOf p)) (sym none) tt));
}
  where
    backward : IsLegalBackward p (e ∷ reverse journal)
    backward = subst (IsLegalBackward p) (reverse-append journal (e ∷ [])) legal

    past : List Happening
    past = past_of p journal

    x : Happening
    x = happening p past e

    d : Deed
    d = deed_on p (board p past) e.turn

    own : start_of d.told ≡ (if d.begins && length (ended_runs past) == 0 then Some (head_of p) else None)
    own = starts_run p (board p past) e.turn backward.0

    begins : d.begins ≡ is_begin e.turn
    begins = begins-is p (board p past) e.turn

    none : start_of d.after ≡ None
    none = cancel_starts d.after (cancel_told p (frame_of p past) (clock past) _ d
        (does_after p past e (holds p (reverse journal) backward.2) backward.0).marks)

    or_false : (b : Bool) → (b || false) ≡ b
    or_false true = refl
    or_false false = refl
