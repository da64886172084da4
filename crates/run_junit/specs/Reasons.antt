-- Why an attempt is no success.
use Rattle.std.specs.Prelude.{ℕ, Bool, true, false, ◌==◌, if◌then◌else◌, List, [], ◌∷◌, ◌++◌, length, codes, decimal}
use Rattle.std.specs.Fmt.{signed_decimal}
use Rattle.std.specs.List.{flat_map}
use Rattle.run_capture.specs.declared.test_output.ChildFdError.{ChildFdError}
use Rattle.run_events.specs.declared.result.ChildExecutionOutput.{ChildExecutionOutput}
use Rattle.run_events.specs.declared.result.ChildExecutionOutput.TheVariants.{Output, StartError}
use Rattle.run_events.specs.declared.result.ExecuteStatus.{ExecuteStatus}
use Rattle.run_events.specs.declared.result.ExecutionResult.{ExecutionResult}
use Rattle.run_events.specs.declared.result.ExecutionResult.TheVariants as results
use Rattle.run_events.specs.declared.result.FailureStatus.{FailureStatus}
use Rattle.run_events.specs.declared.result.FailureStatus.TheVariants.{ExitCode, Abort}
use Rattle.run_report.specs.Blocks.{fault_said, fault_source}
use Rattle.run_junit.specs.declared.reason.Fault.{Fault}
use Rattle.run_junit.specs.declared.reason.Fault.TheVariants as faults
use Rattle.run_junit.specs.declared.tag.Key.TheVariants as keys
use Rattle.run_junit.specs.declared.tag.Tag.{Tag}
use Rattle.run_junit.specs.declared.tag.Tag.TheVariants as tags
use Rattle.run_junit.specs.Tokens.{Attribute}

-- as what an attempt that is no success counts: one that could not be run, or that left a descriptor open where that
-- counts, is an error, and any other a failure
abbrev pub fault_by_result : ExecutionResult → Fault
fault_by_result results.ExecFail = faults.Error
fault_by_result (results.Leak leak) = faults.Error
fault_by_result (results.Fail status leaked) = faults.Failure
fault_by_result (results.Timeout timeout) = faults.Failure
fault_by_result results.Pass = faults.Failure

-- its element in a case; in a case that failed where it is a later attempt; and in a case that passed
abbrev pub fault_tag : Fault → Tag
fault_tag faults.Failure = tags.Failure
fault_tag faults.Error = tags.Error

abbrev pub rerun_tag : Fault → Tag
rerun_tag faults.Failure = tags.RerunFailure
rerun_tag faults.Error = tags.RerunError

abbrev pub flaky_tag : Fault → Tag
flaky_tag faults.Failure = tags.FlakyFailure
flaky_tag faults.Error = tags.FlakyError

-- what kind of failure it is
abbrev pub leak_kind_said : Bool → List ℕ
leak_kind_said true = codes " and leaked handles"
leak_kind_said false = []

abbrev pub status_said : FailureStatus → List ℕ
status_said (ExitCode code) = codes "test failure with exit code " ++ signed_decimal code
status_said (Abort signal) = codes "test abort with signal " ++ signed_decimal signal

unfoldable pub type_said : ExecutionResult → List ℕ
type_said results.ExecFail = codes "execution failure"
type_said (results.Leak leak) = codes "test exited with code 0, but leaked handles so was marked failed"
type_said (results.Fail status leaked) = status_said status ++ leak_kind_said leaked
type_said (results.Timeout timeout) = codes "test timeout"
type_said results.Pass = []

-- the errors that came up at a child, with semicolons between them
abbrev pub error_said : ChildFdError → List ℕ
error_said fault = fault_source fault ++ fault_said fault

abbrev pub errors_said : List ChildFdError → List ℕ
errors_said [] = []
errors_said (first ∷ later) = error_said first ++ flat_map (λ fault. codes "; " ++ error_said fault) later

-- what is said of a child that could not be started, waited for or read
unfoldable pub child_said : ChildExecutionOutput → List ℕ
child_said (StartError text) = text
child_said (Output output errors) = errors_said errors

-- a message, unless it is empty
abbrev pub message_said : List ℕ → List Attribute
message_said text = if length text == 0 then [] else (keys.Message, text) ∷ []

-- what is said of a failure of this type
unfoldable pub reason_said : List ℕ → List ℕ → List Attribute
reason_said message kind = message_said message ++ (keys.Type, kind) ∷ []

-- what is said of a test that passed at this attempt, and fails since it isn't to be flaky
unfoldable pub flaky_said : ExecuteStatus → List ℕ
flaky_said last = codes "test passed on attempt " ++ (decimal last.attempt ++ (codes "/" ++ (decimal last.attempts
    ++ codes " but is configured to fail when flaky")))
