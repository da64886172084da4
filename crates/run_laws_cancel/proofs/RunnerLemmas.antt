-- The runner stops itself exactly where the wait for stopped units is over.
use Rattle.std.proofs.Common.{◌≡◌, ℕ, List, [], ◌∷◌, Bool, true, false, if◌then◌else◌}
use Rattle.std.proofs.Common.{Option, Some, None, refl}
use Rattle.run_events.specs.Hearing.{heard_key}
use Rattle.run_events.specs.declared.info.InfoResponse.{InfoResponse}
use Rattle.run_events.specs.declared.input.InputEvent.{InputEvent}
use Rattle.run_events.specs.declared.input.InputEvent.TheVariants as inputs
use Rattle.run_events.specs.declared.events.TestEventKind.TheVariants.{RunPaused, RunContinued}
use Rattle.run_events.specs.declared.message.Message.{Message}
use Rattle.run_events.specs.declared.request.Request.TheVariants.{Stop, Continue}
use Rattle.run_events.specs.declared.settings.Settings.{Settings}
use Rattle.run_events.specs.declared.signal.Heard.{Heard}
use Rattle.run_events.specs.declared.signal.Heard.TheVariants.{Shutdown, JobControl, Info}
use Rattle.run_events.specs.declared.signal.Signal.{Signal as SignalKind}
use Rattle.run_events.specs.declared.signal.Signal.TheVariants.{Tstp}
use Rattle.run_events.specs.declared.turn.Turn.{Turn}
use Rattle.run_events.specs.declared.turn.Turn.TheVariants.{Admit, Answer, Deliver, Key, Signal}
use Rattle.run_model.specs.Admission.{Newcomer, newcomer}
use Rattle.run_model.specs.Board.{Board, Deed}
use Rattle.run_model.specs.Cancel.{Cause, cause_of, caused}
use Rattle.run_model.specs.Dispatch.{Moment, go_of, heard_by, is_halted, moment_by}
use Rattle.run_model.specs.Turns.{admission, answer_to, answered_by, deed_on, delivered_as, delivery, event_of}
use Rattle.run_model.specs.Turns.{job_deed, job_event, key_deed, live_in, nothing_done, oldest_of, signal_deed}
use Rattle.run_model.specs.Turns.{starting, tally_with, tells}
use Rattle.run_model.specs.declared.dispatcher_view.DispatcherView.{DispatcherView}
use Rattle.run_model.specs.declared.dispatcher_view.Tally.{Tally}
use Rattle.run_laws_cancel.specs.Enabled.{is_stop_wait_due}
use Rattle.run_laws.proofs.told.Bounds.{begin_cases, end_cases}
use Rattle.run_events.specs.declared.turn.Turn.TheVariants.{Begin, End}
use Rattle.run_model.specs.Turns.{index_of}

admission_stops : (o : Option Newcomer) → (admission o).stops ≡ false
admission_stops None = refl
admission_stops (Some new) = refl

caused_stops : (now : Moment) (t : Tally) (o : Option Cause) (d : Deed) → d.stops ≡ false
    → (caused now t o d).stops ≡ false
caused_stops now t None d none = none
caused_stops now t (Some cause) d none = none

delivery_stops : (b : Board) (q : List Message) → (delivery b q).stops ≡ false
delivery_stops b [] = refl
delivery_stops b (m ∷ rest) =
    caused_stops (moment_by b.clock b.dispatcher.watch) (tally_with b (event_of b m))
    (cause_of b.dispatcher.rules (tally_with b (event_of b m)) m)
    (delivered_as b m (answer_to b (starting m) (go_of b.dispatcher.tally m))) refl

job_stops : (now : ℕ) (d : DispatcherView) (signal : SignalKind) → (job_deed now d signal).stops ≡ false
job_stops now d Tstp = by_pause (is_halted d)
  where
    by_pause : (b : Bool) → (if b
        then nothing_done
        else record (tells now d (RunPaused (job_event d.tally))) { request = Some (Stop d.rounds.count) }).stops
        ≡ false
    by_pause true = refl
    by_pause false = refl
job_stops now d signal = by_pause (is_halted d)
  where
    by_pause : (b : Bool) → (if b
        then record (tells now d (RunContinued (job_event d.tally))) { request = Some Continue }
        else nothing_done).stops
        ≡ false
    by_pause true = refl
    by_pause false = refl

signal_stops : (now live : ℕ) (d : DispatcherView) (signal : SignalKind) (heard : Option Heard)
    → (signal_deed now live d signal heard).stops ≡ false
signal_stops now live d signal (Some Shutdown) = refl
signal_stops now live d signal (Some JobControl) = job_stops now d signal
signal_stops now live d signal (Some Info) = refl
signal_stops now live d signal None = refl

key_stops : (now live : ℕ) (d : DispatcherView) (event : Option InputEvent) → (key_deed now live d event).stops ≡ false
key_stops now live d (Some inputs.Enter) = refl
key_stops now live d (Some inputs.Info) = refl
key_stops now live d None = refl

answer_stops : (b : Board) (o : Option InfoResponse) → (answered_by b o).stops ≡ false
answer_stops b None = refl
answer_stops b (Some response) = refl

pub stops_is : (p : Settings) (b : Board) (turn : Turn) → (deed_on p b turn).stops ≡ is_stop_wait_due turn
stops_is p b Begin = begin_cases (λ d. d.stops ≡ false) (λ told after own later. refl) b.clock b.dispatcher
stops_is p b End = end_cases (λ d. d.stops ≡ false) (λ told after over own later. refl) b.clock b.dispatcher
stops_is p b Admit = admission_stops (newcomer p (index_of b.dispatcher) b.units)
stops_is p b Deliver = delivery_stops b b.queue
stops_is p b (Signal signal) =
    signal_stops b.clock (live_in b.units) b.dispatcher signal (heard_by b.dispatcher.rules.hearing signal)
stops_is p b (Key key) =
    key_stops b.clock (live_in b.units) b.dispatcher (heard_key b.dispatcher.rules.hearing.input key)
stops_is p b Answer = answer_stops b (oldest_of b.answers)
stops_is p b turn = refl
