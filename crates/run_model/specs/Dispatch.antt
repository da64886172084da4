-- The dispatcher's table: which turns it takes, what each tells, and what it leaves.
use Rattle.std.specs.Prelude.{⊤, ℕ, ◌≡◌, ◌+◌, ◌-◌, ◌<◌, ◌^◌, nat_lt, nat_le, length, Bool, true, false, ◌&&◌, ◌||◌, not}
use Rattle.std.specs.Prelude.{if◌then◌else◌, Option, Some, None, is_none, is_some}
use Rattle.run_clock.specs.Sleep.{fires_now}
use Rattle.run_clock.specs.Stopwatch.{Watch, started_at, active_by}
use Rattle.run_events.specs.Stats.{AreBelow, plus}
use Rattle.run_events.specs.declared.stats.RunStats.{RunStats}
use Rattle.run_events.specs.declared.settings.Settings.{Settings}
use Rattle.run_events.specs.declared.turn.Turn.{Turn}
use Rattle.run_events.specs.declared.turn.Turn.TheVariants.{Begin, Deliver, GlobalDue, StopWaitDue, InfoDue, Answer}
use Rattle.run_events.specs.declared.turn.Turn.TheVariants.{Tick}
use Rattle.run_events.specs.declared.turn.Turn.TheVariants.{ReportCancel, End, Signal as SignalCame, Key as KeyCame}
use Rattle.run_events.specs.declared.message.Message.{Message}
use Rattle.run_events.specs.declared.message.Message.TheVariants.{ScriptStart, ScriptSlow, ScriptFinish, Start, Slow}
use Rattle.run_events.specs.declared.message.Message.TheVariants.{AttemptFailed, Retry, Skip, Finish}
use Rattle.run_events.specs.declared.message.TestStart.{TestStart}
use Rattle.run_events.specs.declared.message.TestFinish.{TestFinish}
use Rattle.run_events.specs.declared.message.AttemptFailed.{AttemptFailed as Failure}
use Rattle.run_events.specs.declared.message.TestRetry.{TestRetry}
use Rattle.run_events.specs.declared.events.ReporterEvent.{ReporterEvent}
use Rattle.run_events.specs.declared.events.ReporterEvent.TheVariants.{Test}
use Rattle.run_events.specs.declared.events.RunStarted.{RunStarted}
use Rattle.run_events.specs.declared.events.TestEventKind.{TestEventKind}
use Rattle.run_events.specs.declared.events.TestEventKind.TheVariants.{SetupScriptStarted, SetupScriptSlow}
use Rattle.run_events.specs.declared.events.TestEventKind.TheVariants.{SetupScriptFinished, TestStarted, TestSlow}
use Rattle.run_events.specs.declared.events.TestEventKind.TheVariants.{TestFinished}
use Rattle.run_events.specs.declared.events.TestEventKind.TheVariants.{TestSkipped, TestAttemptFailedWillRetry}
use Rattle.run_events.specs.declared.events.TestEventKind.TheVariants.{TestRetryStarted}
use Rattle.run_model.specs.declared.dispatcher_view.CancelRules.{CancelRules}
use Rattle.run_model.specs.declared.dispatcher_view.Causes.{Causes}
use Rattle.run_model.specs.declared.dispatcher_view.DispatcherView.{DispatcherView}
use Rattle.run_model.specs.declared.dispatcher_view.Rounds.{Rounds}
use Rattle.run_model.specs.declared.dispatcher_view.SubRuns.{SubRuns}
use Rattle.run_events.specs.Hearing.{heard_signal, heard_key}
use Rattle.run_events.specs.declared.plan.Hearing.{Hearing}
use Rattle.run_events.specs.declared.request.Request.{Request}
use Rattle.run_events.specs.declared.request.Request.TheVariants.{Stop, GetInfo}
use Rattle.run_events.specs.declared.signal.Heard.{Heard}
use Rattle.run_events.specs.declared.signal.Heard.TheVariants.{Shutdown}
use Rattle.run_events.specs.declared.signal.Signal.{Signal}
use Rattle.run_model.specs.declared.dispatcher_view.Tally.{Tally}
use Rattle.run_model.specs.declared.dispatcher_view.Facts.{Facts}
use Rattle.run_model.specs.Admission.{tests_in}
use Rattle.run_model.specs.Words.{FinishedUnit, a_script, a_test, adds_by, finished_test, initial_stats, time_limit}

-- what is told of a run as it starts
abbrev pub head_of : Settings → RunStarted
head_of p = record {
  run_id = p.plan.head.run_id;
  tests = tests_in p;
  args = p.plan.head.args;
  profile = p.plan.head.profile;
  stress = p.stress;
}

-- by which rules a run is cancelled
abbrev pub rules_of : Settings → CancelRules
rules_of p = record {
  hearing = p.plan.hearing;
  max_fail = p.max_fail;
  global_timeout = time_limit p;
}

-- before anything came: no cause, none that runs, no round, and no sub-run that has ended
abbrev pub no_causes : Causes
no_causes = record { signals = 0; reported = false; global = None }

abbrev pub tally_from : RunStats → Tally
tally_from stats = record { running = 0; scripts_running = 0; stats = stats }

abbrev pub no_rounds : Rounds
no_rounds = record { count = 0; asks = None; since = 0; total = 0; told = 0 }

abbrev pub none_ended : SubRuns
none_ended = record { ended = 0; failed = 0; cancelled = false; outcome = None }

-- before the run begins: all scripts, and all tests that match, are to run
abbrev pub unbegun : Settings → DispatcherView
unbegun p = record {
  head = head_of p;
  rules = rules_of p;
  initial = initial_stats p;
  on = false;
  over = false;
  causes = no_causes;
  tally = tally_from (initial_stats p);
  watch = started_at 0;
  rounds = no_rounds;
  sub_runs = none_ended;
  sub_run_watch = started_at 0;
  rerun = p.expected;
  latest = 0;
}

-- what a signal is to a run with these handlers, and whether it shuts it down
abbrev pub is_shutdown : Option Heard → Bool
is_shutdown (Some Shutdown) = true
is_shutdown _ = false

abbrev pub heard_by : Hearing → Signal → Option Heard
heard_by hearing signal = heard_signal hearing.signals hearing.quit_is_info signal

abbrev pub shuts_down : Hearing → Signal → Bool
shuts_down hearing signal = is_shutdown (heard_by hearing signal)

-- whether a sub-run is on and no round is open; whether one of stops is, or one of queries
abbrev pub is_main : DispatcherView → Bool
is_main d = d.on && is_none d.rounds.asks

abbrev pub stop_waits : Option Request → Bool
stop_waits (Some (Stop round)) = true
stop_waits request = false

abbrev pub query_waits : Option Request → Bool
query_waits (Some (GetInfo round)) = true
query_waits request = false

-- a round waits for units for 100 ms, from where it began or told its latest answer
abbrev pub is_overdue : DispatcherView → ℕ → Bool
is_overdue d now = nat_le (d.rounds.since + 100000000) now

-- whether the run is paused
abbrev pub is_halted : DispatcherView → Bool
is_halted d = is_some d.watch.opened

-- which signals are taken: two that shut the run down, and any other that is heard
abbrev pub takes_signal : ℕ → Option Heard → Bool
takes_signal before (Some Shutdown) = nat_lt before 2
takes_signal before (Some heard) = true
takes_signal before None = false

-- the dispatcher's part of the table of turns, at a moment: false for the turns that aren't its own. One report of a
-- refused event is taken, and a run that is paused doesn't end
abbrev pub dispatch_takes : DispatcherView → Facts → ℕ → Turn → Bool
dispatch_takes d facts now Begin = not d.on && not d.over
dispatch_takes d facts now Deliver = is_main d && facts.message_waits
dispatch_takes d facts now (SignalCame signal) =
    is_main d && takes_signal d.causes.signals (heard_by d.rules.hearing signal)
dispatch_takes d facts now (KeyCame key) = is_main d && is_some (heard_key d.rules.hearing.input key)
dispatch_takes d facts now Tick = is_main d
dispatch_takes d facts now GlobalDue = is_main d && fires_now now d.causes.global
dispatch_takes d facts now StopWaitDue = d.on && stop_waits d.rounds.asks && (not facts.held || is_overdue d now)
dispatch_takes d facts now InfoDue =
    d.on && query_waits d.rounds.asks && (not (facts.answer_waits || facts.held) || is_overdue d now)
dispatch_takes d facts now Answer = d.on && query_waits d.rounds.asks && facts.answer_waits
dispatch_takes d facts now ReportCancel = is_main d && facts.refused && not d.causes.reported
dispatch_takes d facts now End = is_main d && facts.complete && not (is_halted d)
dispatch_takes d facts now _ = false

-- a shutdown signal that would be taken, but that two came before it
abbrev pub is_third : DispatcherView → Turn → Bool
is_third d (SignalCame signal) =
    not d.over && is_main d && shuts_down d.rules.hearing signal && not (nat_lt d.causes.signals 2)
is_third d _ = false

-- a moment of a run: by its clock, and by its active time; and that of a run with this stopwatch
pub record Moment : Type 0 where
  pub clock : ℕ
  pub elapsed : ℕ

abbrev pub moment_by : ℕ → Watch → Moment
moment_by now watch = record { clock = now; elapsed = active_by watch now }

-- an event at a moment
abbrev pub event : Moment → TestEventKind → ReporterEvent
event moment kind = Test (record { clock = moment.clock; elapsed = moment.elapsed; kind = kind })

-- a unit is let go where nothing cancels the run
abbrev pub may_go : Tally → Bool
may_go t = is_none t.stats.cancel_reason

-- what a start, and a finish, make of the counts
abbrev pub with_start : Tally → Tally
with_start t = record t { running = t.running + 1 }

abbrev pub with_script : Tally → Tally
with_script t = record t { scripts_running = t.scripts_running + 1 }

abbrev pub with_finish : Tally → FinishedUnit → Tally
with_finish t (a_test test) =
    record t { running = t.running - 1; stats = plus t.stats (adds_by (a_test test)) }
with_finish t (a_script result) =
    record t { scripts_running = t.scripts_running - 1; stats = plus t.stats (adds_by (a_script result)) }

abbrev pub with_skip : Tally → Tally
with_skip t = record t { stats = record t.stats { skipped = t.stats.skipped + 1 } }

-- the counts after an event was told
abbrev pub tallied : TestEventKind → Tally → Tally
tallied (SetupScriptStarted event) t = with_script t
tallied (SetupScriptFinished event) t = with_finish t (a_script event.status.result)
tallied (TestStarted event) t = with_start t
tallied (TestFinished event) t = with_finish t (a_test (finished_test event.finish))
tallied (TestSkipped skip) t = with_skip t
tallied _ t = t

-- the counts after a turn told this event, or none
abbrev pub having_told : Tally → Option ReporterEvent → Tally
having_told t (Some (Test event)) = tallied event.kind t
having_told t _ = t

-- a test's start, and its finish, with these counts after it
abbrev pub started_event : TestStart → Tally → TestEventKind
started_event start t = TestStarted (record { start = start; running = t.running; stats = t.stats })

abbrev pub finished_event : TestFinish → Tally → TestEventKind
finished_event finish t = TestFinished (record { finish = finish; running = t.running; stats = t.stats })

-- the failure of an attempt, and the start of a further one, which count nothing
abbrev pub failed_event : Failure → Tally → TestEventKind
failed_event failure t = TestAttemptFailedWillRetry (record { failed = failure; running = t.running })

abbrev pub retried_event : TestRetry → Tally → TestEventKind
retried_event retry t = TestRetryStarted (record { retry = retry; running = t.running })

-- what the delivery of a message tells, with the counts after it
abbrev pub told_of : Tally → Message → Option TestEventKind
told_of t (ScriptStart start) = if may_go t then Some (SetupScriptStarted start) else None
told_of t (ScriptSlow slow) = Some (SetupScriptSlow slow)
told_of t (ScriptFinish finish) = Some (SetupScriptFinished finish)
told_of t (Start start) = if may_go t then Some (started_event start (with_start t)) else None
told_of t (Skip skip) = Some (TestSkipped skip)
told_of t (Slow slow) = Some (TestSlow slow)
told_of t (AttemptFailed failure) = Some (failed_event failure t)
told_of t (Retry retry) = if may_go t then Some (retried_event retry t) else None
told_of t (Finish finish) = Some (finished_event finish (with_finish t (a_test (finished_test finish))))

-- the answer to a unit whose start, or retry, is delivered
abbrev pub go_of : Tally → Message → Option Bool
go_of t (ScriptStart start) = Some (may_go t)
go_of t (Start start) = Some (may_go t)
go_of t (Retry retry) = Some (may_go t)
go_of t _ = None

-- what a message needs: room in the counts, and a finish is of a script or a test that runs, of a test after an attempt
abbrev pub Fits : Tally → Message → Type 0
Fits t (ScriptStart start) = t.scripts_running + 1 < 2 ^ 32
Fits t (ScriptSlow slow) = ⊤
Fits t (ScriptFinish finish) = AreBelow (2 ^ 32) t.stats × (0 < t.scripts_running)
Fits t (Start start) = t.running + 1 < 2 ^ 32
Fits t (Skip skip) = t.stats.skipped < 2 ^ 32
Fits t (Slow slow) = ⊤
Fits t (AttemptFailed failure) = ⊤
Fits t (Retry retry) = ⊤
Fits t (Finish finish) = AreBelow (2 ^ 32) t.stats × (0 < length finish.statuses) × (0 < t.running)

-- when a message can be delivered
abbrev pub CanDeliver : DispatcherView → Message → Type 0
CanDeliver d m = (d.on ≡ true) × Fits d.tally m
