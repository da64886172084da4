-- Results of attempts.
use Rattle.std.specs.Prelude.{Bool, true, false, pos, zero, List, [], ◌∷◌, Option, Some, None}
use Rattle.run_capture.specs.declared.test_output.ChildFdError.{ChildFdError}
use Rattle.run_events.specs.declared.result.ChildExit.{ChildExit}
use Rattle.run_events.specs.declared.result.ChildExit.TheVariants as exits
use Rattle.run_events.specs.declared.result.FailureStatus.TheVariants.{ExitCode, Abort}
use Rattle.run_events.specs.declared.result.LeakTimeoutResult.{LeakTimeoutResult}
use Rattle.run_events.specs.declared.result.LeakTimeoutResult.TheVariants as leaks
use Rattle.run_events.specs.declared.result.SlowTimeoutResult.TheVariants as timeouts
use Rattle.run_events.specs.declared.result.ExecutionResult.{ExecutionResult}
use Rattle.run_events.specs.declared.result.ExecutionResult.TheVariants.{Pass, Leak, Fail, ExecFail, Timeout}

-- whether an attempt with this result passed
abbrev pub is_success : ExecutionResult → Bool
is_success Pass = true
is_success (Leak leaks.Pass) = true
is_success (Leak leaks.Fail) = false
is_success (Fail status leaked) = false
is_success ExecFail = false
is_success (Timeout timeouts.Pass) = true
is_success (Timeout timeouts.Fail) = false

-- what the end of a child means, by whether it left a descriptor open, and what that is to mean
abbrev pub exit_result : ChildExit → Bool → LeakTimeoutResult → ExecutionResult
exit_result (exits.Code (pos zero)) true leak = Leak leak
exit_result (exits.Code (pos zero)) false leak = Pass
exit_result (exits.Code code) leaked leak = Fail (ExitCode code) leaked
exit_result (exits.Signal signal) leaked leak = Fail (Abort signal) leaked

-- the result of an attempt: with no end, or a fault at its descriptors or its wait, it failed to run
abbrev pub execution_result : Option ChildExit → List ChildFdError → Bool → LeakTimeoutResult
    → ExecutionResult
execution_result None errors leaked leak = ExecFail
execution_result (Some exit) (error ∷ errors) leaked leak = ExecFail
execution_result (Some exit) [] leaked leak = exit_result exit leaked leak
