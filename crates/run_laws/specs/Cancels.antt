-- What is told of a run that is cancelled, turn by turn, and the lines of its units.
use Rattle.std.specs.Prelude.{ℕ, nat_le, nat_lt, ◌==◌, if◌then◌else◌, ◌≡◌, ◌≤◌, ◌++◌, List, [], ◌∷◌, length, Bool, true}
use Rattle.std.specs.Prelude.{false, Option, Some, None, is_some}
use Rattle.std.specs.Prelude.{IfSome, option_and_then}
use Rattle.run_events.specs.declared.cancel.CancelReason.{CancelReason}
use Rattle.run_events.specs.declared.cancel.CancelReason.TheVariants.{SecondSignal, Interrupt, Signal as BySignal}
use Rattle.run_events.specs.declared.cancel.CancelReason.TheVariants.{GlobalTimeout, ReportError, TestFailure}
use Rattle.run_events.specs.declared.cancel.CancelReason.TheVariants.{SetupScriptFailure}
use Rattle.run_events.specs.Result.{is_success}
use Rattle.run_events.specs.declared.result.ExecutionResult.{ExecutionResult}
use Rattle.run_events.specs.declared.cancel.CancelReason.TheVariants.{TestFailureImmediate}
use Rattle.run_events.specs.Outcome.{failed_count}
use Rattle.run_events.specs.declared.retry_policy.MaxFail.{MaxFail}
use Rattle.run_events.specs.declared.retry_policy.MaxFail.TheVariants.{All, Count}
use Rattle.run_events.specs.declared.retry_policy.TerminateMode.{TerminateMode}
use Rattle.run_events.specs.declared.retry_policy.TerminateMode.TheVariants.{Wait, Immediate}
use Rattle.run_events.specs.declared.signal.Signal.{Signal as SignalKind}
use Rattle.run_events.specs.declared.signal.Signal.TheVariants.{Int}
use Rattle.run_events.specs.declared.stats.RunStats.{RunStats}
use Rattle.run_events.specs.declared.turn.Turn.{Turn}
use Rattle.run_events.specs.declared.turn.Turn.TheVariants.{Signal, GlobalDue, ReportCancel, Deliver}
use Rattle.run_events.specs.declared.events.ReporterEvent.{ReporterEvent}
use Rattle.run_events.specs.declared.events.ReporterEvent.TheVariants.{Test}
use Rattle.run_events.specs.declared.events.TestEventKind.{TestEventKind}
use Rattle.run_events.specs.declared.events.TestEventKind.TheVariants.{RunBeginCancel, RunBeginKill, SetupScriptStarted}
use Rattle.run_events.specs.declared.events.TestEventKind.TheVariants.{SetupScriptFinished, TestStarted}
use Rattle.run_events.specs.declared.events.TestEventKind.TheVariants.{TestRetryStarted}
use Rattle.run_events.specs.declared.events.TestEventKind.TheVariants.{TestFinished}
use Rattle.run_events.specs.declared.ask.Ask.{Ask}
use Rattle.run_events.specs.declared.ask.Ask.TheVariants.{Start}
use Rattle.run_events.specs.declared.settings.Settings.{Settings}
use Rattle.run_model.specs.declared.entry.Entry.{Entry}
use Rattle.run_model.specs.declared.happening.Happening.{Happening}
use Rattle.run_model.specs.declared.unit_view.UnitView.{UnitView}
use Rattle.run_model.specs.Dispatch.{shuts_down}
use Rattle.run_model.specs.Unit.{is_live}
use Rattle.run_model.specs.Story.{broadcast_to, taken_by, line_of}
use Rattle.run_model.specs.Words.{reason, signals_heard, sub_run, unit_of}
use Rattle.run_events.specs.Cancel.{rank}
use Rattle.run_model.specs.Turns.{happening}
use Rattle.run_model.specs.Journal.{IsLegal, past_of}

-- the reason with which an event tells that the run is cancelled, or killed, if it tells that
abbrev pub reason_in : TestEventKind → Option CancelReason
reason_in (RunBeginCancel cancelled) = cancelled.stats.cancel_reason
reason_in (RunBeginKill cancelled) = cancelled.stats.cancel_reason
reason_in _ = None

abbrev pub reason_told : ReporterEvent → Option CancelReason
reason_told (Test event) = reason_in event.kind
reason_told _ = None

-- whether it tells that it is killed
abbrev pub kills_in : TestEventKind → Bool
kills_in (RunBeginKill cancelled) = true
kills_in _ = false

abbrev pub kills : ReporterEvent → Bool
kills (Test event) = kills_in event.kind
kills _ = false

-- whether it tells that a script, a test or a further attempt starts
abbrev pub begins_in : TestEventKind → Bool
begins_in (SetupScriptStarted event) = true
begins_in (TestStarted event) = true
begins_in (TestRetryStarted event) = true
begins_in _ = false

abbrev pub tells_start : ReporterEvent → Bool
tells_start (Test event) = begins_in event.kind
tells_start _ = false

-- what a turn is as a cause after others of its sub-run, if it is one: a shutdown signal, the first or the second that
-- was heard; the time of the sub-run; an event that was refused; the delivery of a script's finish, where it is no
-- success; or that of a test's, which is told with the counts after it, where as many tests have failed as end the run
abbrev pub first_signal : SignalKind → CancelReason
first_signal Int = Interrupt
first_signal _ = BySignal

abbrev pub signal_reason : ℕ → SignalKind → CancelReason
signal_reason heard signal = if heard == 0 then first_signal signal else SecondSignal

abbrev pub failure_reason : TerminateMode → CancelReason
failure_reason Wait = TestFailure
failure_reason Immediate = TestFailureImmediate

abbrev pub failures_reason : MaxFail → RunStats → Option CancelReason
failures_reason All stats = None
failures_reason (Count most mode) stats = if nat_le most (failed_count stats) then Some (failure_reason mode) else None

abbrev pub script_reason : ExecutionResult → Option CancelReason
script_reason result = if is_success result then None else Some SetupScriptFailure

abbrev pub finish_reason : MaxFail → TestEventKind → Option CancelReason
finish_reason most (SetupScriptFinished event) = script_reason event.status.result
finish_reason most (TestFinished event) = failures_reason most event.stats
finish_reason most _ = None

abbrev pub delivery_reason : MaxFail → Option ReporterEvent → Option CancelReason
delivery_reason most (Some (Test event)) = finish_reason most event.kind
delivery_reason most _ = None

abbrev pub cause_by : Settings → List Happening → Turn → Option ReporterEvent → Option CancelReason
cause_by p before (Signal signal) told =
    if shuts_down p.plan.hearing signal then Some (signal_reason (signals_heard before) signal) else None
cause_by p before GlobalDue told = Some GlobalTimeout
cause_by p before ReportCancel told = Some ReportError
cause_by p before Deliver told = delivery_reason p.max_fail told
cause_by p before _ told = None

-- whether a turn is a cause above this reason, and whether a reason is that of a second signal
abbrev pub rises : Option CancelReason → Option CancelReason → Bool
rises before None = false
rises None (Some cause) = true
rises (Some before) (Some cause) = nat_lt (rank before) (rank cause)

abbrev pub is_second : Option CancelReason → Bool
is_second (Some SecondSignal) = true
is_second _ = false

-- whether a start is asked
abbrev pub asks_start : Ask → Bool
asks_start (Start ask) = true
asks_start _ = false

-- a turn after others of its sub-run: it is a cause by itself and what it tells; it tells that the run is cancelled
-- exactly where it is a cause whose reason is above that of each cause before it, with its own reason; and that it is
-- killed exactly for a second signal. Its own event comes first, and tells no such thing; and it tells a start, and
-- asks one, only where no cause came before
pub record IsCancelled (p : Settings) (before : List Happening) (x : Happening) : Type 0 where
  pub cause : x.cause ≡ cause_by p before x.turn x.told
  pub exactly : is_some (option_and_then reason_told x.after) ≡ rises (reason before) x.cause
  pub with_reason : IfSome (option_and_then reason_told x.after) (λ reason. Some reason ≡ x.cause)
  pub kills : IfSome x.after (λ event. kills event ≡ is_second x.cause)
  pub own : IfSome x.told (λ event. reason_told event ≡ None)
  pub starts : IfSome x.told (λ event. tells_start event ≡ true → reason before ≡ None)
  pub asks : IfSome x.asked (λ ask. asks_start ask ≡ true → reason before ≡ None)

-- that holds of each turn of every legal journal
abbrev pub CancelsAreCaused : Type 0
CancelsAreCaused = (p : Settings) (journal : List Entry) (e : Entry) → IsLegal p (journal ++ e ∷ [])
    → IsCancelled p (sub_run (past_of p journal)) (happening p (past_of p journal) e)

-- after every legal journal the line of each live unit in the newest sub-run is what was broadcast while it was live,
-- but for as many requests as it took, and it took no more
pub record HasItsLine (run : List Happening) (k : ℕ) (u : UnitView) : Type 0 where
  pub line : u.line ≡ line_of k run
  pub took : taken_by k run ≤ length (broadcast_to k run)

abbrev pub LinesAreBroadcasts : Type 0
LinesAreBroadcasts = (p : Settings) (journal : List Entry) → IsLegal p journal → (k : ℕ) (u : UnitView)
    → unit_of k (sub_run (past_of p journal)) ≡ Some u → is_live u.phase ≡ true
    → HasItsLine (sub_run (past_of p journal)) k u
