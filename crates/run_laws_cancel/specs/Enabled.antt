-- When a cause that no message brings is enabled, by the turns before it.
use Rattle.std.specs.Prelude.{ℕ, ◌≡◌, ◌+◌, List, [], ◌∷◌, Bool, true, false, ◌&&◌, ◌||◌, not, nat_le, nat_lt, count_by}
use Rattle.std.specs.Prelude.{if◌then◌else◌, Option, Some, None, is_none}
use Rattle.std.specs.List.{list_any}
use Rattle.run_commands.specs.declared.interceptor.Interceptor.{Interceptor}
use Rattle.run_commands.specs.declared.interceptor.Interceptor.TheVariants as under
use Rattle.run_events.specs.declared.events.ReporterEvent.{ReporterEvent}
use Rattle.run_events.specs.declared.events.ReporterEvent.TheVariants.{Test}
use Rattle.run_events.specs.declared.events.TestEventKind.{TestEventKind}
use Rattle.run_events.specs.declared.events.TestEventKind.TheVariants.{RunContinued}
use Rattle.run_events.specs.declared.settings.Settings.{Settings}
use Rattle.run_events.specs.declared.signal.Signal.{Signal as SignalKind}
use Rattle.run_events.specs.declared.signal.Signal.TheVariants.{Int, Hup, Term, Quit, Tstp, Cont, Usr1}
use Rattle.run_events.specs.declared.signal.SignalHandlerKind.{SignalHandlerKind}
use Rattle.run_events.specs.declared.signal.SignalHandlerKind.TheVariants as handlers
use Rattle.run_events.specs.declared.turn.Turn.{Turn}
use Rattle.run_events.specs.declared.turn.Turn.TheVariants.{GlobalDue, ReportCancel, Signal, StopWaitDue}
use Rattle.run_model.specs.declared.entry.Entry.{Entry}
use Rattle.run_model.specs.declared.happening.Happening.{Happening}
use Rattle.run_model.specs.Journal.{IsLegal, past_of}
use Rattle.run_model.specs.Rounds.{open_round}
use Rattle.run_model.specs.Turns.{enabled}
use Rattle.run_model.specs.Words.{is_on, is_over, ns_of, sub_run, was_refused}

-- the limit on the time of a sub-run: the plan's, and none under an interceptor
abbrev pub limit_under : Interceptor → Option ℕ → Option ℕ
limit_under under.None limit = limit
limit_under (under.Debugger words) limit = None
limit_under (under.Tracer words) limit = None

-- whether so much time reaches a limit
abbrev pub reaches : Option ℕ → ℕ → Bool
reaches None time = false
reaches (Some limit) time = nat_le limit time

-- which signals shut a run down: beside a debugger those that it doesn't need for itself
abbrev pub shuts_run_down : SignalHandlerKind → Bool → SignalKind → Bool
shuts_run_down handlers.Standard quit_is_info Int = true
shuts_run_down handlers.Standard quit_is_info Hup = true
shuts_run_down handlers.Standard quit_is_info Term = true
shuts_run_down handlers.Standard quit_is_info Quit = not quit_is_info
shuts_run_down handlers.DebuggerMode quit_is_info Hup = true
shuts_run_down handlers.DebuggerMode quit_is_info Term = true
shuts_run_down _ _ _ = false

-- which other signals are heard: those that stop the run and let it go on, and, but beside a debugger, those that ask
-- what it is doing
abbrev pub is_heard_besides : SignalHandlerKind → Bool → SignalKind → Bool
is_heard_besides handlers.Standard quit_is_info Quit = quit_is_info
is_heard_besides handlers.Standard quit_is_info Tstp = true
is_heard_besides handlers.Standard quit_is_info Cont = true
is_heard_besides handlers.Standard quit_is_info Usr1 = true
is_heard_besides handlers.DebuggerMode quit_is_info Tstp = true
is_heard_besides handlers.DebuggerMode quit_is_info Cont = true
is_heard_besides _ _ _ = false

-- whether a turn is that of the global timer, the report of a refused event, or a signal that shuts the run down
abbrev pub is_global_due : Turn → Bool
is_global_due GlobalDue = true
is_global_due _ = false

abbrev pub is_report_cancel : Turn → Bool
is_report_cancel ReportCancel = true
is_report_cancel _ = false

abbrev pub is_shutdown : Settings → Turn → Bool
is_shutdown p (Signal signal) = shuts_run_down p.plan.hearing.signals p.plan.hearing.quit_is_info signal
is_shutdown p _ = false

-- whether a turn is the end of the wait for stopped units
abbrev pub is_stop_wait_due : Turn → Bool
is_stop_wait_due StopWaitDue = true
is_stop_wait_due _ = false

-- whether some turn of a sub-run was such a turn
abbrev pub was_any : (Turn → Bool) → List Happening → Bool
was_any is run = list_any (λ x. is x.turn) run

-- how many turns of a sub-run were signals that shut it down
abbrev pub shutdowns_before : Settings → List Happening → ℕ
shutdowns_before p run = count_by (λ x. is_shutdown p x.turn) run

-- whether a sub-run goes on: it is on, and the run isn't over; and whether no round is open in it besides, in which its
-- units are stopped or asked what they are doing
abbrev pub goes_on : List Happening → Bool
goes_on past = not (is_over past) && is_on (sub_run past)

abbrev pub is_free : List Happening → Bool
is_free past = goes_on past && is_none (open_round (sub_run past))

-- whether an event tells that the run goes on after a pause
abbrev pub continues_in : TestEventKind → Bool
continues_in (RunContinued event) = true
continues_in _ = false

abbrev pub continues : Option ReporterEvent → Bool
continues (Some (Test event)) = continues_in event.kind
continues _ = false

-- whether the runner is stopped in a sub-run: the wait for stopped units was over, with which it stops itself, and the
-- run wasn't told to go on since; and by how much its turns moved the clock while the runner wasn't
abbrev pub is_stopped : List Happening → Bool
is_stopped [] = false
is_stopped (x ∷ run) = is_stop_wait_due x.turn || (not (continues x.told) && is_stopped run)

abbrev pub time_unstopped : List Happening → ℕ
time_unstopped [] = 0
time_unstopped (x ∷ run) = time_unstopped run + (if is_stopped run then 0 else ns_of x.turn)

-- after every legal journal the global timer is due exactly where the newest sub-run is free and its runner not
-- stopped, the time by which its turns moved the clock while that wasn't reaches the limit, and it wasn't due in it
-- before
abbrev pub GlobalTimerIsCounted : Type 0
GlobalTimerIsCounted = (p : Settings) (journal : List Entry) → IsLegal p journal
    → enabled p (past_of p journal) GlobalDue
    ≡ (is_free (past_of p journal) && not (is_stopped (sub_run (past_of p journal)))
    && reaches (limit_under p.interceptor p.plan.global_timeout) (time_unstopped (sub_run (past_of p journal)))
    && not (was_any is_global_due (sub_run (past_of p journal))))

-- and the report of a refused event is enabled exactly where the newest sub-run is free, an event of the run was
-- refused, and none was reported in it before
abbrev pub RefusalsAreReportedOnce : Type 0
RefusalsAreReportedOnce = (p : Settings) (journal : List Entry) → IsLegal p journal
    → enabled p (past_of p journal) ReportCancel
    ≡ (is_free (past_of p journal) && was_refused (past_of p journal)
    && not (was_any is_report_cancel (sub_run (past_of p journal))))

-- and a signal is enabled exactly where the newest sub-run is free, and it shuts the run down and one at most that does
-- so came in it before, or it is heard besides
abbrev pub SignalsAreHeardTwice : Type 0
SignalsAreHeardTwice = (p : Settings) (journal : List Entry) (signal : SignalKind) → IsLegal p journal
    → enabled p (past_of p journal) (Signal signal)
    ≡ (is_free (past_of p journal)
    && ((shuts_run_down p.plan.hearing.signals p.plan.hearing.quit_is_info signal
    && nat_lt (shutdowns_before p (sub_run (past_of p journal))) 2)
    || is_heard_besides p.plan.hearing.signals p.plan.hearing.quit_is_info signal))
