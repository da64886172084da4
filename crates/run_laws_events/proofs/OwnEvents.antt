-- What the own event of each turn says of the board: its moment, and the counts with that event.
use Rattle.std.proofs.Common.{◌≡◌, ℕ, List, [], ◌∷◌, Bool, true, false, not, if◌then◌else◌, Option, Some, None}
use Rattle.std.proofs.Common.{option_map, refl, ◌==◌}
use Rattle.std.specs.Prelude.{IfSome}
use Rattle.std.specs.Cmp.{second_so}
use Rattle.run_events.specs.declared.settings.Settings.{Settings}
use Rattle.run_events.specs.declared.turn.Turn.{Turn}
use Rattle.run_events.specs.declared.message.Message.{Message}
use Rattle.run_events.specs.declared.message.Message.TheVariants.{ScriptStart, ScriptSlow, ScriptFinish, Start, Slow}
use Rattle.run_events.specs.declared.message.Message.TheVariants.{AttemptFailed, Retry, Skip, Finish}
use Rattle.run_events.specs.declared.events.ReporterEvent.{ReporterEvent}
use Rattle.run_events.specs.declared.events.RunFinishedStats.TheVariants.{Single}
use Rattle.run_events.specs.declared.events.TestEventKind.{TestEventKind}
use Rattle.run_events.specs.declared.events.TestEventKind.TheVariants.{SetupScriptStarted, RunPaused, RunContinued}
use Rattle.run_events.specs.declared.events.TestEventKind.TheVariants.{InfoStarted, InfoResponse as InfoAnswer}
use Rattle.run_events.specs.declared.events.TestEventKind.TheVariants.{InputEnter}
use Rattle.run_events.specs.Hearing.{heard_key}
use Rattle.run_events.specs.declared.info.InfoResponse.{InfoResponse}
use Rattle.run_events.specs.declared.input.InputEvent.{InputEvent}
use Rattle.run_events.specs.declared.input.InputEvent.TheVariants as inputs
use Rattle.run_events.specs.declared.request.Request.TheVariants.{Stop, Continue}
use Rattle.run_events.specs.declared.signal.Heard.{Heard}
use Rattle.run_events.specs.declared.signal.Heard.TheVariants.{Shutdown, JobControl, Info}
use Rattle.run_events.specs.declared.signal.Signal.{Signal as SignalKind}
use Rattle.run_events.specs.declared.signal.Signal.TheVariants.{Tstp}
use Rattle.run_clock.specs.Stopwatch.{active_by}
use Rattle.run_model.specs.declared.dispatcher_view.Tally.{Tally}
use Rattle.run_model.specs.Admission.{Newcomer, newcomer}
use Rattle.run_model.specs.Dispatch.{Moment, moment_by, heard_by, is_halted, event, may_go, tallied, having_told}
use Rattle.run_model.specs.Dispatch.{told_of, go_of, started_event, retried_event, with_start}
use Rattle.run_model.specs.Board.{Board, Deed}
use Rattle.run_model.specs.Cancel.{Cause, cause_of, caused}
use Rattle.run_model.specs.Turns.{enabled_on, takes_turn, turn_of_unit, admission, starting, answer_to, event_of}
use Rattle.run_model.specs.Turns.{tally_with, delivered_as, delivery, done_by, deed_on, live_in, oldest_of}
use Rattle.run_model.specs.Turns.{answered_by, asks_at, job_deed, job_event, key_deed, nothing_done, signal_deed, tells}
use Rattle.run_laws.proofs.board.ByTurn.{by_turn}
use Rattle.run_laws_events.specs.Moments.{SaysMoment}
use Rattle.run_laws_events.specs.Counts.{running_said_in, running_said, scripts_said_in, scripts_said, stats_said_in}
use Rattle.run_laws_events.specs.Counts.{stats_said}
use Rattle.run_events.specs.declared.events.TestEventKind.TheVariants.{RunStarted}
use Rattle.run_commands.specs.declared.stress_count.StressCondition.{StressCondition}
use Rattle.run_model.specs.Turns.{index_of, ends_as, sub_run_started}
use Rattle.run_model.specs.Turns.{begins_as}

-- an event says what these counts are
pub record SaysTally (t : Tally) (e : ReporterEvent) : Type 0 where
  pub running : IfSome (running_said e) (λ n. n ≡ t.running)
  pub scripts : IfSome (scripts_said e) (λ n. n ≡ t.scripts_running)
  pub stats : IfSome (stats_said e) (λ s. s ≡ t.stats)

-- what is told by a board says its moment, and the counts with that event
pub record TellsBoard (b : Board) (o : Option ReporterEvent) : Type 0 where
  pub moment : IfSome o (SaysMoment b.clock (active_by b.dispatcher.watch b.clock))
  pub counts : IfSome o (SaysTally (having_told b.dispatcher.tally o))

-- nothing says nothing
silent : (b : Board) → TellsBoard b None
silent b = record { moment = tt; counts = tt }

-- an event of this kind says the counts with it
record CountsItself (t : Tally) (kind : TestEventKind) : Type 0 where
  running : IfSome (running_said_in kind) (λ n. n ≡ (tallied kind t).running)
  scripts : IfSome (scripts_said_in kind) (λ n. n ≡ (tallied kind t).scripts_running)
  stats : IfSome (stats_said_in kind) (λ s. s ≡ (tallied kind t).stats)

of_kind : (b : Board) (o : Option TestEventKind) → IfSome o (CountsItself b.dispatcher.tally)
    → TellsBoard b (option_map (event (moment_by b.clock b.dispatcher.watch)) o)
of_kind b None h = silent b
of_kind b (Some kind) h = record {
  moment = (refl, refl);
  counts = record { running = h.running; scripts = h.scripts; stats = h.stats };
}

-- what is told where a unit is let go
if_going : (t : Tally) (go : Bool) (kind : TestEventKind) → CountsItself t kind
    → IfSome (if go then Some kind else None) (CountsItself t)
if_going t true kind h = h
if_going t false kind h = tt

-- what the delivery of each message tells
message_counts : (t : Tally) (m : Message) → IfSome (told_of t m) (CountsItself t)
message_counts t (ScriptStart start) =
    if_going t (may_go t) (SetupScriptStarted start) (record { running = tt; scripts = tt; stats = tt })
message_counts t (ScriptSlow slow) = record { running = tt; scripts = tt; stats = tt }
message_counts t (ScriptFinish finish) = record { running = tt; scripts = tt; stats = tt }
message_counts t (Start start) =
    if_going t (may_go t) (started_event start (with_start t)) (record { running = refl; scripts = tt; stats = refl })
message_counts t (Skip skip) = record { running = tt; scripts = tt; stats = tt }
message_counts t (Slow slow) = record { running = tt; scripts = tt; stats = tt }
message_counts t (AttemptFailed failure) = record { running = refl; scripts = tt; stats = tt }
message_counts t (Retry retry) =
    if_going t (may_go t) (retried_event retry t) (record { running = refl; scripts = tt; stats = tt })
message_counts t (Finish finish) = record { running = refl; scripts = tt; stats = refl }

-- a cause leaves the own event of a deed
caused_tells : (b : Board) (now : Moment) (t : Tally) (o : Option Cause) (d : Deed) → TellsBoard b d.told
    → TellsBoard b (caused now t o d).told
caused_tells b now t None d h = h
caused_tells b now t (Some cause) d h = h

delivery_tells : (b : Board) (q : List Message) → TellsBoard b (delivery b q).told
delivery_tells b [] = silent b
delivery_tells b (m ∷ rest) =
    let tells : Option ReporterEvent = event_of b m in
    caused_tells b (moment_by b.clock b.dispatcher.watch) (tally_with b tells)
    (cause_of b.dispatcher.rules (tally_with b tells) m)
    (delivered_as b m (answer_to b (starting m) (go_of b.dispatcher.tally m)))
    (of_kind b (told_of b.dispatcher.tally m) (message_counts b.dispatcher.tally m))

admission_tells : (b : Board) (o : Option Newcomer) → TellsBoard b (admission o).told
admission_tells b None = silent b
admission_tells b (Some new) = silent b

-- the run pauses or goes on, where it isn't so already
job_tells : (b : Board) (signal : SignalKind) → TellsBoard b (job_deed b.clock b.dispatcher signal).told
job_tells b Tstp = by_pause (is_halted b.dispatcher)
  where
    by_pause : (halted : Bool) → TellsBoard b (if halted then nothing_done
        else record (tells b.clock b.dispatcher (RunPaused (job_event b.dispatcher.tally))) {
          request = Some (Stop b.dispatcher.rounds.count);
        }).told
    by_pause true = silent b
    by_pause false = of_kind b (Some (RunPaused (job_event b.dispatcher.tally)))
        (record { running = refl; scripts = refl; stats = tt })
job_tells b signal = by_pause (is_halted b.dispatcher)
  where
    by_pause : (halted : Bool) → TellsBoard b (if halted
        then record (tells b.clock b.dispatcher (RunContinued (job_event b.dispatcher.tally))) {
          request = Some Continue;
        }
        else nothing_done).told
    by_pause true = of_kind b (Some (RunContinued (job_event b.dispatcher.tally)))
        (record { running = refl; scripts = refl; stats = tt })
    by_pause false = silent b

-- a round of queries begins, or tells an answer; a signal, and a key
ask_tells : (b : Board) (live : ℕ) → TellsBoard b (asks_at b.clock live b.dispatcher).told
ask_tells b live = of_kind b (Some (InfoStarted _)) (record { running = refl; scripts = tt; stats = refl })

answer_tells : (b : Board) (o : Option InfoResponse) → TellsBoard b (answered_by b o).told
answer_tells b None = silent b
answer_tells b (Some response) = of_kind b (Some (InfoAnswer _)) (record { running = tt; scripts = tt; stats = tt })

signal_tells : (b : Board) (live : ℕ) (signal : SignalKind) (heard : Option Heard)
    → TellsBoard b (signal_deed b.clock live b.dispatcher signal heard).told
signal_tells b live signal (Some Shutdown) = silent b
signal_tells b live signal (Some JobControl) = job_tells b signal
signal_tells b live signal (Some Info) = ask_tells b live
signal_tells b live signal None = silent b

key_tells : (b : Board) (live : ℕ) (event : Option InputEvent)
    → TellsBoard b (key_deed b.clock live b.dispatcher event).told
key_tells b live (Some inputs.Enter) =
    of_kind b (Some (InputEnter _)) (record { running = refl; scripts = tt; stats = refl })
key_tells b live (Some inputs.Info) = ask_tells b live
key_tells b live None = silent b

-- so the own event of each enabled turn
pub own_tells : (p : Settings) (b : Board) (turn : Turn) → enabled_on p b turn ≡ true
    → TellsBoard b (deed_on p b turn).told
own_tells p b turn en =
    by_turn (λ turn named. takes_turn p b turn named ≡ true → TellsBoard b (done_by p b turn named).told)
    (record {
      begin = λ en. begun (b.dispatcher.sub_runs.ended == 0);
      admit = λ en. admission_tells b (newcomer p (index_of b.dispatcher) b.units);
      deliver = λ en. delivery_tells b b.queue;
      named = λ turn k to other en. silent b;
      clock = λ ns en. silent b;
      signal = λ signal en. signal_tells b (live_in b.units) signal (heard_by b.dispatcher.rules.hearing signal);
      global_due = λ en. silent b;
      report_cancel = λ en. silent b;
      end = λ en. ended b.dispatcher.head.stress;
      key = λ key en. key_tells b (live_in b.units) (heard_key b.dispatcher.rules.hearing.input key);
      tick = λ en. record { moment = tt; counts = record { running = tt; scripts = tt; stats = tt } };
      stop_wait_due = λ en. silent b;
      answer = λ en. answer_tells b (oldest_of b.answers);
      info_due = λ en. of_kind b (Some _) (record { running = tt; scripts = tt; stats = tt });
    })
    turn (second_so (not b.dispatcher.over) (takes_turn p b turn (turn_of_unit turn)) en)
  where
    begun : (first : Bool) → TellsBoard b (begins_as b.clock b.dispatcher first).told
    begun true = record { moment = (refl, refl); counts = record { running = tt; scripts = tt; stats = tt } }
    begun false = by_stress b.dispatcher.head.stress
      where
        by_stress : (o : Option StressCondition) → TellsBoard b (option_map (sub_run_started b.clock b.dispatcher) o)
        by_stress None = silent b
        by_stress (Some condition) =
            record { moment = (refl, refl); counts = record { running = tt; scripts = tt; stats = tt } }

    ended : (o : Option StressCondition) → TellsBoard b (ends_as b.clock b.dispatcher o).told
    ended None = record { moment = (refl, refl); counts = record { running = tt; scripts = tt; stats = refl } }
    ended (Some condition) =
        record { moment = (refl, refl); counts = record { running = tt; scripts = tt; stats = refl } }
