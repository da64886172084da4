-- What is printed as a text.
use Rattle.std.specs.Prelude.{ℕ, List, [], ◌∷◌, ◌++◌, Bool, true, false, codes, decimal}
use Rattle.std.specs.Fmt.{signed_decimal}
use Rattle.std.specs.Int.NonZero.{non_zero_u32_get}
use Rattle.hex.specs.Hex.{encode_lower}
use Rattle.serde_json.specs.Data.{Data, string}
use Rattle.run_commands.specs.declared.stress_count.StressCount.{StressCount}
use Rattle.run_commands.specs.declared.stress_count.StressCount.TheVariants as runs
use Rattle.run_events.specs.declared.plan.TestInstanceId.{TestInstanceId}
use Rattle.run_events.specs.declared.result.ExecutionResult.{ExecutionResult}
use Rattle.run_events.specs.declared.result.ExecutionResult.TheVariants.{Pass, Leak, Fail, ExecFail, Timeout}
use Rattle.run_events.specs.declared.result.FailureStatus.{FailureStatus}
use Rattle.run_events.specs.declared.result.FailureStatus.TheVariants.{ExitCode, Abort}
use Rattle.run_events.specs.declared.result.LeakTimeoutResult.TheVariants as leak
use Rattle.run_events.specs.declared.result.SlowTimeoutResult.TheVariants as slow
use Rattle.run_output.specs.Fields.{texts}

-- bytes, in hex with lower case letters
abbrev pub bytes_data : List ℕ → Data
bytes_data bytes = string (encode_lower bytes)

-- a test by its binary and its name
abbrev pub test_data : TestInstanceId → Data
test_data test = texts (test.binary ∷ test.name ∷ [])

-- how often a stress run repeats
unfoldable pub runs_text : StressCount → List ℕ
runs_text runs.Infinite = codes "infinite"
runs_text (runs.Count count) = decimal (non_zero_u32_get count)

-- what stands after a failure that left a descriptor open
abbrev pub leaked_text : Bool → List ℕ
leaked_text true = codes " leaked"
leaked_text false = []

-- a failure in words
abbrev pub failure_text : FailureStatus → Bool → List ℕ
failure_text (ExitCode code) leaked = codes "fail code " ++ (signed_decimal code ++ leaked_text leaked)
failure_text (Abort signal) leaked = codes "fail signal " ++ (signed_decimal signal ++ leaked_text leaked)

-- a result in words
unfoldable pub result_text : ExecutionResult → List ℕ
result_text Pass = codes "pass"
result_text (Leak leak.Pass) = codes "leak-pass"
result_text (Leak leak.Fail) = codes "leak-fail"
result_text (Fail status leaked) = failure_text status leaked
result_text ExecFail = codes "exec-fail"
result_text (Timeout slow.Pass) = codes "timeout-pass"
result_text (Timeout slow.Fail) = codes "timeout-fail"
