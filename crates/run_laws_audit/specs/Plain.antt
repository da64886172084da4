-- Told statuses that are plain, so that their texts are read back.
use Rattle.std.specs.Prelude.{⊤, List, IsUtf8, FitsSigned}
use Rattle.std.specs.Int.{w32}
use Rattle.std.specs.List.{All}
use Rattle.run_events.specs.declared.events.ReporterEvent.{ReporterEvent}
use Rattle.run_events.specs.declared.events.ReporterEvent.TheVariants.{Tick, Test}
use Rattle.run_events.specs.declared.events.TestEventKind.{TestEventKind}
use Rattle.run_events.specs.declared.events.TestEventKind.TheVariants.{SetupScriptFinished, TestAttemptFailedWillRetry}
use Rattle.run_events.specs.declared.events.TestEventKind.TheVariants.{TestFinished}
use Rattle.run_events.specs.declared.result.ExecutionResult.{ExecutionResult}
use Rattle.run_events.specs.declared.result.ExecutionResult.TheVariants.{Fail}
use Rattle.run_events.specs.declared.result.FailureStatus.{FailureStatus}
use Rattle.run_events.specs.declared.result.FailureStatus.TheVariants.{ExitCode, Abort}
use Rattle.run_events.specs.declared.result.ScriptEnv.{ScriptEnv}
use Rattle.run_events.specs.declared.result.ScriptEnv.TheVariants.{Unread, Variables, Fault}
use Rattle.run_model.specs.declared.happening.Happening.{Happening}
use Rattle.run_model.specs.Words.{told}
use Rattle.run_output.specs.Statuses.{script_status_data, status_data}
use Rattle.run_text_laws.specs.Plain.{IsPlain}

-- the code or the signal of a failed attempt fits 32 bits with a sign
abbrev pub IsPlainFailure : FailureStatus → Type 0
IsPlainFailure (ExitCode code) = FitsSigned w32 code
IsPlainFailure (Abort signal) = FitsSigned w32 signal

abbrev pub IsPlainResult : ExecutionResult → Type 0
IsPlainResult (Fail failure leaked) = IsPlainFailure failure
IsPlainResult _ = ⊤

-- the variables of an environment file are UTF-8
abbrev pub IsPlainEnv : ScriptEnv → Type 0
IsPlainEnv Unread = ⊤
IsPlainEnv (Variables pairs) = All (λ two. IsUtf8 two.0 × IsUtf8 two.1) pairs
IsPlainEnv (Fault fault) = ⊤

-- the statuses that an event tells are plain
abbrev pub HasPlainStatusIn : TestEventKind → Type 0
HasPlainStatusIn (SetupScriptFinished event) = IsPlain (script_status_data event.status)
HasPlainStatusIn (TestAttemptFailedWillRetry event) = IsPlain (status_data event.failed.status)
HasPlainStatusIn (TestFinished event) = All (λ status. IsPlain (status_data status)) event.finish.statuses
HasPlainStatusIn _ = ⊤

abbrev pub HasPlainStatus : ReporterEvent → Type 0
HasPlainStatus (Test event) = HasPlainStatusIn event.kind
HasPlainStatus Tick = ⊤

-- that holds of all that is told of a history
abbrev pub ArePlainTold : List Happening → Type 0
ArePlainTold past = All HasPlainStatus (told past)
