-- Which answer a turn tells.
use Rattle.std.specs.Prelude.{⊤, IfSome}
use Rattle.std.proofs.Common.{◌≡◌, ℕ, List, [], ◌∷◌, Bool, true, false, if◌then◌else◌}
use Rattle.std.proofs.Common.{Option, Some, None, option_map, refl}
use Rattle.run_events.specs.Hearing.{heard_key}
use Rattle.run_events.specs.declared.settings.Settings.{Settings}
use Rattle.run_events.specs.declared.events.ReporterEvent.{ReporterEvent}
use Rattle.run_events.specs.declared.events.ReporterEvent.TheVariants.{Test}
use Rattle.run_events.specs.declared.events.TestEventKind.{TestEventKind}
use Rattle.run_events.specs.declared.events.TestEventKind.TheVariants as kinds
use Rattle.run_events.specs.declared.info.InfoResponse.{InfoResponse}
use Rattle.run_events.specs.declared.input.InputEvent.{InputEvent}
use Rattle.run_events.specs.declared.input.InputEvent.TheVariants as inputs
use Rattle.run_events.specs.declared.message.Message.{Message}
use Rattle.run_events.specs.declared.message.Message.TheVariants.{ScriptStart, Start, Retry}
use Rattle.run_events.specs.declared.request.Request.TheVariants.{Stop, Continue}
use Rattle.run_events.specs.declared.signal.Heard.{Heard}
use Rattle.run_events.specs.declared.signal.Heard.TheVariants.{Shutdown, JobControl, Info}
use Rattle.run_events.specs.declared.signal.Signal.{Signal as SignalKind}
use Rattle.run_events.specs.declared.signal.Signal.TheVariants.{Tstp}
use Rattle.run_events.specs.declared.turn.Turn.{Turn}
use Rattle.run_events.specs.declared.turn.Turn.TheVariants.{Admit, Answer, Deliver, Key, Signal}
use Rattle.run_model.specs.declared.dispatcher_view.DispatcherView.{DispatcherView}
use Rattle.run_model.specs.declared.dispatcher_view.Tally.{Tally}
use Rattle.run_model.specs.Admission.{Newcomer, newcomer}
use Rattle.run_model.specs.Board.{Board, Deed}
use Rattle.run_model.specs.Cancel.{Cause, cause_of, caused}
use Rattle.run_model.specs.Dispatch.{Moment, event, go_of, heard_by, is_halted, may_go, moment_by, retried_event}
use Rattle.run_model.specs.Dispatch.{started_event, told_of, with_start}
use Rattle.run_model.specs.Turns.{admission, answer_to, answered_by, deed_on, delivered_as, delivery, event_of}
use Rattle.run_model.specs.Turns.{job_deed, job_event, key_deed, live_in, nothing_done, oldest_of}
use Rattle.run_model.specs.Turns.{signal_deed, starting, tally_with, tells}
use Rattle.run_model.specs.Turns.{index_of}
use Rattle.run_laws.proofs.told.Bounds.{IsBound, IsBoundKind, begin_cases, end_cases}
use Rattle.run_events.specs.declared.turn.Turn.TheVariants.{Begin, End}
use Rattle.run_events.specs.declared.events.TestEventKind.TheVariants.{RunStarted, RunFinished, StressSubRunStarted}
use Rattle.run_events.specs.declared.events.TestEventKind.TheVariants.{StressSubRunFinished}
use Rattle.run_events.specs.declared.events.ReporterEvent.TheVariants.{Tick}

-- an event that tells an answer on a board tells the oldest that waits
abbrev pub TellsOldestIn : Board → TestEventKind → Type 0
TellsOldestIn b (kinds.InfoResponse answer) = oldest_of b.answers ≡ Some answer.response
TellsOldestIn b _ = ⊤

abbrev pub TellsOldest : Board → ReporterEvent → Type 0
TellsOldest b (Test event) = TellsOldestIn b event.kind
TellsOldest b _ = ⊤

-- the delivery of a message tells none
if_going : (b : Board) (now : Moment) (go : Bool) (kind : TestEventKind) → TellsOldestIn b kind
    → IfSome (option_map (event now) (if go then Some kind else None)) (TellsOldest b)
if_going b now true kind h = h
if_going b now false kind h = tt

message_tells : (b : Board) (now : Moment) (t : Tally) (m : Message)
    → IfSome (option_map (event now) (told_of t m)) (TellsOldest b)
message_tells b now t (ScriptStart start) = if_going b now (may_go t) (kinds.SetupScriptStarted start) tt
message_tells b now t (Start start) = if_going b now (may_go t) (started_event start (with_start t)) tt
message_tells b now t (Retry retry) = if_going b now (may_go t) (retried_event retry t) tt
message_tells b now t m = tt

caused_tells : (b : Board) (now : Moment) (t : Tally) (o : Option Cause) (d : Deed) → IfSome d.told (TellsOldest b)
    → IfSome (caused now t o d).told (TellsOldest b)
caused_tells b now t None d h = h
caused_tells b now t (Some cause) d h = h

delivery_tells : (b : Board) (q : List Message) → IfSome (delivery b q).told (TellsOldest b)
delivery_tells b [] = tt
delivery_tells b (m ∷ rest) =
    let now : Moment = moment_by b.clock b.dispatcher.watch in
    caused_tells b now (tally_with b (event_of b m)) (cause_of b.dispatcher.rules (tally_with b (event_of b m)) m)
    (delivered_as b m (answer_to b (starting m) (go_of b.dispatcher.tally m)))
    (message_tells b now b.dispatcher.tally m)

admission_tells : (b : Board) (o : Option Newcomer) → IfSome (admission o).told (TellsOldest b)
admission_tells b None = tt
admission_tells b (Some new) = tt

-- nor does a pause, nor a query
job_tells : (b : Board) (now : ℕ) (d : DispatcherView) (signal : SignalKind)
    → IfSome (job_deed now d signal).told (TellsOldest b)
job_tells b now d Tstp = by_pause (is_halted d)
  where
    by_pause : (halted : Bool) → IfSome (if halted
        then nothing_done
        else record (tells now d (kinds.RunPaused (job_event d.tally))) {
          request = Some (Stop d.rounds.count);
        }).told (TellsOldest b)
    by_pause true = tt
    by_pause false = tt
job_tells b now d signal = by_pause (is_halted d)
  where
    by_pause : (halted : Bool) → IfSome (if halted
        then record (tells now d (kinds.RunContinued (job_event d.tally))) { request = Some Continue }
        else nothing_done).told (TellsOldest b)
    by_pause true = tt
    by_pause false = tt

signal_tells : (b : Board) (signal : SignalKind) (heard : Option Heard)
    → IfSome (signal_deed b.clock (live_in b.units) b.dispatcher signal heard).told (TellsOldest b)
signal_tells b signal (Some Shutdown) = tt
signal_tells b signal (Some JobControl) = job_tells b b.clock b.dispatcher signal
signal_tells b signal (Some Info) = tt
signal_tells b signal None = tt

key_tells : (b : Board) (event : Option InputEvent)
    → IfSome (key_deed b.clock (live_in b.units) b.dispatcher event).told (TellsOldest b)
key_tells b (Some inputs.Enter) = tt
key_tells b (Some inputs.Info) = tt
key_tells b None = tt

answer_tells : (b : Board) (o : Option InfoResponse) → oldest_of b.answers ≡ o
    → IfSome (answered_by b o).told (TellsOldest b)
answer_tells b None is = tt
answer_tells b (Some response) is = is

-- the begin and the end of a sub-run tell none
bound_oldest : (b : Board) (o : Option ReporterEvent) → IsBound o → IfSome o (TellsOldest b)
bound_oldest b None h = tt
bound_oldest b (Some Tick) h = absurd h
bound_oldest b (Some (Test event)) h = by_kind event.kind h
  where
    by_kind : (kind : TestEventKind) → IsBoundKind kind → TellsOldest b (Test (record event { kind = kind }))
    by_kind (RunStarted s) h = tt
    by_kind (StressSubRunStarted s) h = tt
    by_kind (StressSubRunFinished s) h = tt
    by_kind (RunFinished s) h = tt
    by_kind kind h = absurd h

-- so each turn
pub tells_oldest_answer : (p : Settings) (b : Board) (turn : Turn) → IfSome (deed_on p b turn).told (TellsOldest b)
tells_oldest_answer p b Begin = begin_cases (λ d. IfSome d.told (TellsOldest b))
    (λ told after own later. bound_oldest b told own)
    b.clock b.dispatcher
tells_oldest_answer p b End = end_cases (λ d. IfSome d.told (TellsOldest b))
    (λ told after over own later. bound_oldest b told own)
    b.clock b.dispatcher
tells_oldest_answer p b Admit = admission_tells b (newcomer p (index_of b.dispatcher) b.units)
tells_oldest_answer p b Deliver = delivery_tells b b.queue
tells_oldest_answer p b (Signal signal) = signal_tells b signal (heard_by b.dispatcher.rules.hearing signal)
tells_oldest_answer p b (Key key) = key_tells b (heard_key b.dispatcher.rules.hearing.input key)
tells_oldest_answer p b Answer = answer_tells b (oldest_of b.answers) refl
tells_oldest_answer p b turn = tt
