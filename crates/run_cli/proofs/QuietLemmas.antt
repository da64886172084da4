-- What each turn but a tick tells is no tick.
use Rattle.std.proofs.Common.{◌≡◌, ℕ, List, [], ◌∷◌, ◌++◌, ◌==◌}
use Rattle.std.proofs.Common.{map}
use Rattle.std.proofs.Common.{Bool, true, false, if◌then◌else◌, Option, Some, None}
use Rattle.std.proofs.Common.{option_map}
use Rattle.std.proofs.Common.{option_to_list, refl, ap, ◌∙◌}
use Rattle.run_events.specs.declared.settings.Settings.{Settings}
use Rattle.run_events.specs.declared.turn.Turn.{Turn}
use Rattle.run_events.specs.declared.turn.Turn.TheVariants as turns
use Rattle.run_events.specs.declared.signal.Heard.{Heard}
use Rattle.run_events.specs.declared.signal.Heard.TheVariants.{Shutdown, JobControl, Info}
use Rattle.run_events.specs.declared.signal.Signal.{Signal as SignalKind}
use Rattle.run_events.specs.declared.signal.Signal.TheVariants.{Tstp}
use Rattle.run_events.specs.declared.input.InputEvent.{InputEvent}
use Rattle.run_events.specs.declared.input.InputEvent.TheVariants as inputs
use Rattle.run_events.specs.declared.message.Message.{Message}
use Rattle.run_events.specs.declared.events.TestEventKind.{TestEventKind}
use Rattle.run_events.specs.declared.events.TestEventKind.TheVariants.{RunPaused, RunContinued}
use Rattle.run_events.specs.declared.request.Request.TheVariants.{Stop, Continue}
use Rattle.run_events.specs.declared.events.ReporterEvent.{ReporterEvent}
use Rattle.run_events.specs.declared.events.ReporterEvent.TheVariants.{Tick, Test}
use Rattle.run_events.specs.declared.info.InfoResponse.{InfoResponse}
use Rattle.run_commands.specs.declared.stress_count.StressCondition.{StressCondition}
use Rattle.run_events.specs.Hearing.{heard_key}
use Rattle.run_model.specs.declared.dispatcher_view.DispatcherView.{DispatcherView}
use Rattle.run_model.specs.declared.dispatcher_view.Tally.{Tally}
use Rattle.run_model.specs.Admission.{Newcomer, newcomer}
use Rattle.run_model.specs.Board.{Board, Deed, deed_events}
use Rattle.run_model.specs.Cancel.{Cause, time_is_up, event_refused, signal_cause, caused, cause_of, cancel_event}
use Rattle.run_model.specs.Cancel.{cancelled_for, is_above}
use Rattle.run_model.specs.Dispatch.{Moment, event, told_of, heard_by, moment_by, is_halted, go_of}
use Rattle.run_model.specs.Turns.{begins_as, ends_as, index_of, run_finished, stops_with, stress_finale}
use Rattle.run_model.specs.Turns.{sub_run_started}
use Rattle.run_model.specs.Turns.{deed_on, admission, answer_to, starting, delivery}
use Rattle.run_model.specs.Turns.{message_deed}
use Rattle.run_model.specs.Turns.{tally_by, signal_deed, job_deed, key_deed, answered_by, oldest_of, cancels_for}
use Rattle.run_model.specs.Turns.{nothing_done, live_in, tells, job_event}
use Rattle.run_model.specs.Words.{told}
use Rattle.run_cli.specs.Clocks.{clock_at}
use Rattle.run_cli.specs.Commands.{ticks_in}

-- the ticks among two lists of events
pub ticks_in-append : (xs ys : List ReporterEvent) → ticks_in (xs ++ ys) ≡ ticks_in xs ++ ticks_in ys
ticks_in-append [] ys = refl
ticks_in-append (Tick ∷ xs) ys = ap (λ ticks. Tick ∷ ticks) (ticks_in-append xs ys)
ticks_in-append (Test e ∷ xs) ys = ticks_in-append xs ys

-- no tick is told
abbrev IsQuiet : Option ReporterEvent → Type 0
IsQuiet event = ticks_in (option_to_list event) ≡ []

both_quiet : (told after : Option ReporterEvent) → IsQuiet told → IsQuiet after
    → ticks_in (option_to_list told ++ option_to_list after) ≡ []
both_quiet told after h k =
    ticks_in-append (option_to_list told) (option_to_list after)
    ∙ ap (λ ticks. ticks ++ ticks_in (option_to_list after)) h ∙ k

-- what a cause tells is none
caused_quiet : (moment : Moment) (t : Tally) (cause : Option Cause) (d : Deed) → IsQuiet d.told → IsQuiet d.after
    → ticks_in (deed_events (caused moment t cause d)) ≡ []
caused_quiet moment t None d h k = both_quiet d.told d.after h k
caused_quiet moment t (Some cause) d h k =
    both_quiet d.told _ h (by_rank (is_above t.stats.cancel_reason cause.reason))
  where
    by_rank : (b : Bool) → IsQuiet
        (if b then Some (event moment (cancel_event cause.reason (cancelled_for cause.reason t))) else None)
    by_rank true = refl
    by_rank false = refl

told_quiet : (moment : Moment) (kind : Option TestEventKind) → IsQuiet (option_map (event moment) kind)
told_quiet moment None = refl
told_quiet moment (Some kind) = refl

-- what each turn but a tick does
abbrev AreQuiet : Deed → Type 0
AreQuiet d = ticks_in (deed_events d) ≡ []

-- the begin and the end of a sub-run
begins_quiet : (now : ℕ) (d : DispatcherView) (stress : Option StressCondition)
    → IsQuiet (option_map (sub_run_started now d) stress)
begins_quiet now d None = refl
begins_quiet now d (Some condition) = refl

begin_quiet : (now : ℕ) (d : DispatcherView) (first : Bool) → AreQuiet (begins_as now d first)
begin_quiet now d true = begins_quiet now d d.head.stress
begin_quiet now d false =
    both_quiet (option_map (sub_run_started now d) d.head.stress) None (begins_quiet now d d.head.stress) refl

end_quiet : (now : ℕ) (d : DispatcherView) (stress : Option StressCondition) → AreQuiet (ends_as now d stress)
end_quiet now d None = refl
end_quiet now d (Some condition) = by_stop (stops_with now d condition)
  where
    by_stop : (b : Bool) → IsQuiet (if b then Some (run_finished now d (stress_finale d condition)) else None)
    by_stop true = refl
    by_stop false = refl

admission_quiet : (new : Option Newcomer) → AreQuiet (admission new)
admission_quiet None = refl
admission_quiet (Some new) = refl

delivery_quiet : (b : Board) (queue : List Message) → AreQuiet (delivery b queue)
delivery_quiet b [] = refl
delivery_quiet b (m ∷ rest) =
    let d : DispatcherView = b.dispatcher in
    let answer : Deed = answer_to b (starting m) (go_of d.tally m) in
    caused_quiet (moment_by b.clock d.watch) (tally_by b.clock d m) (cause_of d.rules (tally_by b.clock d m) m)
    (message_deed b.clock d m answer) (told_quiet (moment_by b.clock d.watch) (told_of d.tally m)) refl

cancels_quiet : (now : ℕ) (d : DispatcherView) (cause : Cause) → AreQuiet (cancels_for now d cause)
cancels_quiet now d cause = caused_quiet (moment_by now d.watch) d.tally (Some cause) nothing_done refl refl

stops_quiet : (now : ℕ) (d : DispatcherView) (signal : SignalKind) → AreQuiet (job_deed now d signal)
stops_quiet now d Tstp = by_halt (is_halted d)
  where
    by_halt : (b : Bool) → AreQuiet (if b then nothing_done
        else record (tells now d (RunPaused (job_event d.tally))) { request = Some (Stop d.rounds.count) })
    by_halt true = refl
    by_halt false = refl
stops_quiet now d signal = by_halt (is_halted d)
  where
    by_halt : (b : Bool) → AreQuiet (if b
        then record (tells now d (RunContinued (job_event d.tally))) { request = Some Continue } else nothing_done)
    by_halt true = refl
    by_halt false = refl

signal_quiet : (now live : ℕ) (d : DispatcherView) (signal : SignalKind) (heard : Option Heard)
    → AreQuiet (signal_deed now live d signal heard)
signal_quiet now live d signal (Some Shutdown) =
    cancels_quiet now d (signal_cause d.causes.signals signal)
signal_quiet now live d signal (Some JobControl) = stops_quiet now d signal
signal_quiet now live d signal (Some Info) = refl
signal_quiet now live d signal None = refl

key_quiet : (now live : ℕ) (d : DispatcherView) (heard : Option InputEvent) → AreQuiet (key_deed now live d heard)
key_quiet now live d (Some inputs.Enter) = refl
key_quiet now live d (Some inputs.Info) = refl
key_quiet now live d None = refl

answer_quiet : (b : Board) (response : Option InfoResponse) → AreQuiet (answered_by b response)
answer_quiet b None = refl
answer_quiet b (Some response) = refl

none_of : (now : ℕ) (d : Deed) → AreQuiet d → map (λ (tick : ReporterEvent). now) (ticks_in (deed_events d)) ≡ []
none_of now d quiet = ap (map (λ (tick : ReporterEvent). now)) quiet

-- a turn tells a tick where it ticks
pub ticks_by : (p : Settings) (b : Board) (now : ℕ) (turn : Turn)
    → map (λ (tick : ReporterEvent). now) (ticks_in (deed_events (deed_on p b turn))) ≡ clock_at now turn
ticks_by p b now turns.Tick = refl
ticks_by p b now turns.Begin =
    let first : Bool = b.dispatcher.sub_runs.ended == 0 in
    none_of now (begins_as b.clock b.dispatcher first) (begin_quiet b.clock b.dispatcher first)
ticks_by p b now turns.End =
    none_of now (ends_as b.clock b.dispatcher b.dispatcher.head.stress)
    (end_quiet b.clock b.dispatcher b.dispatcher.head.stress)
ticks_by p b now turns.Admit =
    let new : Option Newcomer = newcomer p (index_of b.dispatcher) b.units in
    none_of now (admission new) (admission_quiet new)
ticks_by p b now turns.Deliver = none_of now (delivery b b.queue) (delivery_quiet b b.queue)
ticks_by p b now (turns.Signal signal) =
    none_of now
    (signal_deed b.clock (live_in b.units) b.dispatcher signal (heard_by b.dispatcher.rules.hearing signal))
    (signal_quiet b.clock (live_in b.units) b.dispatcher signal (heard_by b.dispatcher.rules.hearing signal))
ticks_by p b now (turns.Key key) =
    none_of now
    (key_deed b.clock (live_in b.units) b.dispatcher (heard_key b.dispatcher.rules.hearing.input key))
    (key_quiet b.clock (live_in b.units) b.dispatcher (heard_key b.dispatcher.rules.hearing.input key))
ticks_by p b now turns.Answer = none_of now (answered_by b (oldest_of b.answers)) (answer_quiet b (oldest_of b.answers))
ticks_by p b now turns.GlobalDue =
    none_of now (cancels_for b.clock b.dispatcher time_is_up) (cancels_quiet b.clock b.dispatcher time_is_up)
ticks_by p b now turns.ReportCancel =
    none_of now (cancels_for b.clock b.dispatcher event_refused) (cancels_quiet b.clock b.dispatcher event_refused)
ticks_by p b now turn = refl
