-- The words of results, and of the reasons of a cancelled run.
use Rattle.std.specs.Prelude.{ℕ, ℤ, pos, negsuc, Bool, true, false, ◌==◌, if◌then◌else◌, List, [], ◌++◌, length}
use Rattle.std.specs.Prelude.{codes}
use Rattle.std.specs.Fmt.{signed_decimal}
use Rattle.run_events.specs.declared.cancel.CancelReason.{CancelReason}
use Rattle.run_events.specs.declared.cancel.CancelReason.TheVariants as reasons
use Rattle.run_events.specs.declared.result.FailureStatus.{FailureStatus}
use Rattle.run_events.specs.declared.result.FailureStatus.TheVariants.{ExitCode, Abort}
use Rattle.run_events.specs.declared.result.LeakTimeoutResult.{LeakTimeoutResult}
use Rattle.run_events.specs.declared.result.LeakTimeoutResult.TheVariants as leaks
use Rattle.run_events.specs.declared.result.SlowTimeoutResult.{SlowTimeoutResult}
use Rattle.run_events.specs.declared.result.SlowTimeoutResult.TheVariants as timeouts
use Rattle.run_events.specs.declared.result.ExecutionResult.{ExecutionResult}
use Rattle.run_events.specs.declared.result.ExecutionResult.TheVariants.{Pass, Leak, Fail, ExecFail, Timeout}

-- the names of the first signals of Linux
abbrev pub low_of : ℕ → List ℕ
low_of n =
    if n == 1 then codes "SIGHUP" else
    if n == 2 then codes "SIGINT" else
    if n == 3 then codes "SIGQUIT" else
    if n == 4 then codes "SIGILL" else
    if n == 5 then codes "SIGTRAP" else
    if n == 6 then codes "SIGABRT" else
    if n == 7 then codes "SIGBUS" else
    if n == 8 then codes "SIGFPE" else
    if n == 9 then codes "SIGKILL" else
    if n == 10 then codes "SIGUSR1" else
    if n == 11 then codes "SIGSEGV" else
    if n == 12 then codes "SIGUSR2" else
    if n == 13 then codes "SIGPIPE" else
    if n == 14 then codes "SIGALRM" else
    if n == 15 then codes "SIGTERM" else
    []

abbrev pub low_name : ℤ → List ℕ
low_name (pos n) = low_of n
low_name (negsuc n) = []

-- the names of those after them
abbrev pub high_of : ℕ → List ℕ
high_of n =
    if n == 16 then codes "SIGSTKFLT" else
    if n == 17 then codes "SIGCHLD" else
    if n == 18 then codes "SIGCONT" else
    if n == 19 then codes "SIGSTOP" else
    if n == 20 then codes "SIGTSTP" else
    if n == 21 then codes "SIGTTIN" else
    if n == 22 then codes "SIGTTOU" else
    if n == 23 then codes "SIGURG" else
    if n == 24 then codes "SIGXCPU" else
    if n == 25 then codes "SIGXFSZ" else
    if n == 26 then codes "SIGVTALRM" else
    if n == 27 then codes "SIGPROF" else
    if n == 28 then codes "SIGWINCH" else
    if n == 29 then codes "SIGIO" else
    if n == 30 then codes "SIGPWR" else
    if n == 31 then codes "SIGSYS" else
    []

abbrev pub high_name : ℤ → List ℕ
high_name (pos n) = high_of n
high_name (negsuc n) = []

-- the name of a signal, and nothing for another number
abbrev pub signal_name : ℤ → List ℕ
signal_name signal = if length (low_name signal) == 0 then high_name signal else low_name signal

-- the word of an attempt that a signal ended
abbrev pub abort_word : ℤ → List ℕ
abort_word signal = if length (signal_name signal) == 0 then codes "ABORT " ++ signed_decimal signal
    else signal_name signal

-- the word of a failed attempt that was the only one
abbrev pub failed_word : FailureStatus → Bool → List ℕ
failed_word (Abort signal) leaked = abort_word signal
failed_word (ExitCode code) true = codes "FAIL + LEAK"
failed_word (ExitCode code) false = codes "FAIL"

-- that of a leaky one
abbrev pub leak_word : LeakTimeoutResult → List ℕ
leak_word leaks.Pass = codes "LEAK"
leak_word leaks.Fail = codes "LEAK-FAIL"

-- that of one that took too long
abbrev pub timeout_word : SlowTimeoutResult → List ℕ
timeout_word timeouts.Pass = codes "TIMEOUT-PASS"
timeout_word timeouts.Fail = codes "TIMEOUT"

-- the word of an attempt that was the only one
unfoldable pub long_word : ExecutionResult → List ℕ
long_word Pass = codes "PASS"
long_word (Leak leak) = leak_word leak
long_word (Fail status leaked) = failed_word status leaked
long_word ExecFail = codes "XFAIL"
long_word (Timeout timeout) = timeout_word timeout

-- the word of a failed attempt behind its number
abbrev pub short_failed : FailureStatus → Bool → List ℕ
short_failed (Abort signal) leaked = abort_word signal
short_failed (ExitCode code) true = codes "FL+LK"
short_failed (ExitCode code) false = codes "FAIL"

-- the word of another one behind its number
abbrev pub short_other : ExecutionResult → List ℕ
short_other Pass = codes "PASS"
short_other (Leak leaks.Pass) = codes "LEAK"
short_other (Leak leaks.Fail) = codes "LKFAIL"
short_other (Fail status leaked) = []
short_other ExecFail = codes "XFAIL"
short_other (Timeout timeouts.Pass) = codes "TMPASS"
short_other (Timeout timeouts.Fail) = codes "TMT"

-- the word of an attempt behind its number
unfoldable pub short_word : ExecutionResult → List ℕ
short_word (Fail status leaked) = short_failed status leaked
short_word ended = short_other ended

-- why a run is cancelled
abbrev pub reason_text : CancelReason → List ℕ
reason_text reasons.SetupScriptFailure = codes "setup script failure"
reason_text reasons.TestFailure = codes "test failure"
reason_text reasons.ReportError = codes "reporting error"
reason_text reasons.GlobalTimeout = codes "global timeout"
reason_text reasons.TestFailureImmediate = codes "test failure"
reason_text reasons.Signal = codes "signal"
reason_text reasons.Interrupt = codes "interrupt"
reason_text reasons.SecondSignal = codes "second signal"
