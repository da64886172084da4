-- Which turns are causes: that of the global timer, the report of a refused event, a signal that shuts the run down.
use Rattle.std.proofs.Common.{◌≡◌, ℕ, ◌==◌, List, nat_le, Bool, true, false}
use Rattle.std.proofs.Common.{◌&&◌, if◌then◌else◌, Option, Some, None, refl, ◌∙◌}
use Rattle.run_events.specs.Outcome.{failed_count}
use Rattle.run_events.specs.Result.{is_success}
use Rattle.run_events.specs.declared.cancel.CancelReason.{CancelReason}
use Rattle.run_events.specs.declared.cancel.CancelReason.TheVariants as reasons
use Rattle.run_events.specs.declared.events.ReporterEvent.{ReporterEvent}
use Rattle.run_events.specs.declared.events.ReporterEvent.TheVariants.{Tick, Test}
use Rattle.run_events.specs.declared.events.TestEventKind.{TestEventKind}
use Rattle.run_events.specs.declared.events.TestEventKind.TheVariants.{SetupScriptFinished, TestFinished}
use Rattle.run_events.specs.declared.retry_policy.MaxFail.{MaxFail}
use Rattle.run_events.specs.declared.retry_policy.MaxFail.TheVariants.{All, Count}
use Rattle.run_events.specs.declared.retry_policy.TerminateMode.{TerminateMode}
use Rattle.run_events.specs.declared.retry_policy.TerminateMode.TheVariants.{Wait, Immediate}
use Rattle.run_events.specs.declared.settings.Settings.{Settings}
use Rattle.run_events.specs.declared.signal.Signal.{Signal as SignalKind}
use Rattle.run_events.specs.declared.signal.Signal.TheVariants.{Int, Hup, Term, Quit, Tstp, Cont, Usr1}
use Rattle.run_events.specs.declared.signal.SignalHandlerKind.{SignalHandlerKind}
use Rattle.run_events.specs.declared.signal.SignalHandlerKind.TheVariants as handlers
use Rattle.run_events.specs.Hearing.{heard_signal}
use Rattle.run_events.specs.declared.turn.Turn.{Turn}
use Rattle.run_events.specs.declared.turn.Turn.TheVariants.{Deliver, GlobalDue, ReportCancel, Signal}
use Rattle.run_model.specs.declared.happening.Happening.{Happening}
use Rattle.run_model.specs.Dispatch.{is_shutdown as shuts, shuts_down}
use Rattle.run_model.specs.Words.{is_by_signal, signals_heard, is_by_report, is_by_time}
use Rattle.run_laws.specs.Cancels.{cause_by, delivery_reason, failure_reason, finish_reason, first_signal}
use Rattle.run_laws.specs.Cancels.{signal_reason}
use Rattle.run_laws_cancel.specs.Enabled.{is_global_due, is_report_cancel, is_shutdown, shuts_run_down}

-- a test of reasons that answers so for each of a signal, and that passes none of a delivery
record AnswersSignals (f : Option CancelReason → Bool) (answer : Bool) : Type 0 where
  interrupt : f (Some reasons.Interrupt) ≡ answer
  signal : f (Some reasons.Signal) ≡ answer
  second : f (Some reasons.SecondSignal) ≡ answer

record PassesNoDelivery (f : Option CancelReason → Bool) : Type 0 where
  none : f None ≡ false
  script : f (Some reasons.SetupScriptFailure) ≡ false
  failure : f (Some reasons.TestFailure) ≡ false
  immediate : f (Some reasons.TestFailureImmediate) ≡ false

signal_answers : (f : Option CancelReason → Bool) (answer : Bool) → AnswersSignals f answer → (heard : ℕ)
    (signal : SignalKind) → f (Some (signal_reason heard signal)) ≡ answer
signal_answers f answer it heard signal = by_first (heard == 0) signal
  where
    by_first : (b : Bool) (signal : SignalKind)
        → f (Some (if b then first_signal signal else reasons.SecondSignal)) ≡ answer
    by_first true Int = it.interrupt
    by_first true signal = it.signal
    by_first false signal = it.second

delivery_apart : (f : Option CancelReason → Bool) → PassesNoDelivery f → (most : MaxFail) (told : Option ReporterEvent)
    → f (delivery_reason most told) ≡ false
delivery_apart f apart most None = apart.none
delivery_apart f apart most (Some Tick) = apart.none
delivery_apart f apart most (Some (Test event)) = by_kind most event.kind
  where
    by_success : (b : Bool) → f (if b then None else Some reasons.SetupScriptFailure) ≡ false
    by_success true = apart.none
    by_success false = apart.script

    by_count : (b : Bool) (mode : TerminateMode) → f (if b then Some (failure_reason mode) else None) ≡ false
    by_count true Wait = apart.failure
    by_count true Immediate = apart.immediate
    by_count false mode = apart.none

    by_kind : (most : MaxFail) (kind : TestEventKind) → f (finish_reason most kind) ≡ false
    by_kind most (SetupScriptFinished finish) = by_success (is_success finish.status.result)
    by_kind All (TestFinished finish) = apart.none
    by_kind (Count n mode) (TestFinished finish) = by_count (nat_le n (failed_count finish.stats)) mode
    by_kind most kind = apart.none

-- which signals shut a run down
pub shuts_so : (kind : SignalHandlerKind) (info : Bool) (signal : SignalKind)
    → shuts (heard_signal kind info signal) ≡ shuts_run_down kind info signal
shuts_so handlers.Standard info Int = refl
shuts_so handlers.Standard info Hup = refl
shuts_so handlers.Standard info Term = refl
shuts_so handlers.Standard true Quit = refl
shuts_so handlers.Standard false Quit = refl
shuts_so handlers.Standard info Tstp = refl
shuts_so handlers.Standard info Cont = refl
shuts_so handlers.Standard info Usr1 = refl
shuts_so handlers.DebuggerMode info Int = refl
shuts_so handlers.DebuggerMode info Hup = refl
shuts_so handlers.DebuggerMode info Term = refl
shuts_so handlers.DebuggerMode info Quit = refl
shuts_so handlers.DebuggerMode info Tstp = refl
shuts_so handlers.DebuggerMode info Cont = refl
shuts_so handlers.DebuggerMode info Usr1 = refl
shuts_so handlers.Noop info signal = refl

-- a signal that shuts the run down is a cause, and no other one
shutdown_answers : (p : Settings) (f : Option CancelReason → Bool) (answer : Bool) → f None ≡ false
    → AnswersSignals f answer → (heard : ℕ) (signal : SignalKind)
    → f (if shuts_down p.plan.hearing signal then Some (signal_reason heard signal) else None)
    ≡ (shuts_down p.plan.hearing signal && answer)
shutdown_answers p f answer none it heard signal = by_heard (shuts_down p.plan.hearing signal)
  where
    by_heard : (b : Bool) → f (if b then Some (signal_reason heard signal) else None) ≡ (b && answer)
    by_heard true = signal_answers f answer it heard signal
    by_heard false = none

-- so the reasons of the global timer, of a report and of signals are those of their turns
not_of_signal : AnswersSignals is_by_time false
not_of_signal = record { interrupt = refl; signal = refl; second = refl }

no_report_of_signal : AnswersSignals is_by_report false
no_report_of_signal = record { interrupt = refl; signal = refl; second = refl }

of_signal : AnswersSignals is_by_signal true
of_signal = record { interrupt = refl; signal = refl; second = refl }

time_not_told : PassesNoDelivery is_by_time
time_not_told = record { none = refl; script = refl; failure = refl; immediate = refl }

report_not_told : PassesNoDelivery is_by_report
report_not_told = record { none = refl; script = refl; failure = refl; immediate = refl }

signal_not_told : PassesNoDelivery is_by_signal
signal_not_told = record { none = refl; script = refl; failure = refl; immediate = refl }

pub time_is : (p : Settings) (run : List Happening) (turn : Turn) (told : Option ReporterEvent)
    → is_by_time (cause_by p run turn told) ≡ is_global_due turn
time_is p run (Signal signal) told =
    shutdown_answers p is_by_time false refl not_of_signal (signals_heard run) signal ∙ and_false _
  where
    and_false : (b : Bool) → (b && false) ≡ false
    and_false true = refl
    and_false false = refl
time_is p run Deliver told = delivery_apart is_by_time time_not_told p.max_fail told
time_is p run GlobalDue told = refl
time_is p run ReportCancel told = refl
time_is p run turn told = refl

pub report_is : (p : Settings) (run : List Happening) (turn : Turn) (told : Option ReporterEvent)
    → is_by_report (cause_by p run turn told) ≡ is_report_cancel turn
report_is p run (Signal signal) told =
    shutdown_answers p is_by_report false refl no_report_of_signal (signals_heard run) signal ∙ and_false _
  where
    and_false : (b : Bool) → (b && false) ≡ false
    and_false true = refl
    and_false false = refl
report_is p run Deliver told = delivery_apart is_by_report report_not_told p.max_fail told
report_is p run GlobalDue told = refl
report_is p run ReportCancel told = refl
report_is p run turn told = refl

pub signal_is : (p : Settings) (run : List Happening) (turn : Turn) (told : Option ReporterEvent)
    → is_by_signal (cause_by p run turn told) ≡ is_shutdown p turn
signal_is p run (Signal signal) told =
    shutdown_answers p is_by_signal true refl of_signal (signals_heard run) signal
    ∙ and_true _
    ∙ shuts_so p.plan.hearing.signals p.plan.hearing.quit_is_info signal
  where
    and_true : (b : Bool) → (b && true) ≡ b
    and_true true = refl
    and_true false = refl
signal_is p run Deliver told = delivery_apart is_by_signal signal_not_told p.max_fail told
signal_is p run GlobalDue told = refl
signal_is p run ReportCancel told = refl
signal_is p run turn told = refl
