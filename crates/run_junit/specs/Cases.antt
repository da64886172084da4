-- The case of a finished test or setup script.
use Rattle.std.specs.Prelude.{ℕ, not, ◌-◌, nat_lt, if◌then◌else◌, List, [], ◌∷◌, ◌++◌, length}
use Rattle.std.specs.Prelude.{slice_get, take, drop, codes, Option, Some, None}
use Rattle.std.specs.List.{flat_map}
use Rattle.run_capture.specs.declared.test_output.ChildOutput.{ChildOutput}
use Rattle.run_capture.specs.declared.test_output.ChildOutput.TheVariants.{Split, Combined}
use Rattle.run_commands.specs.Pair.{Pair}
use Rattle.run_events.specs.declared.message.ScriptFinish.{ScriptFinish}
use Rattle.run_events.specs.declared.message.TestFinish.{TestFinish}
use Rattle.run_events.specs.declared.result.ChildExecutionOutput.{ChildExecutionOutput}
use Rattle.run_events.specs.declared.result.ChildExecutionOutput.TheVariants.{Output, StartError}
use Rattle.run_events.specs.declared.result.ExecuteStatus.{ExecuteStatus}
use Rattle.run_events.specs.declared.result.ExecutionResult.{ExecutionResult}
use Rattle.run_events.specs.declared.result.ExecutionResult.TheVariants.{ExecFail}
use Rattle.run_events.specs.declared.result.ScriptEnv.{ScriptEnv}
use Rattle.run_events.specs.declared.result.ScriptEnv.TheVariants as envs
use Rattle.run_events.specs.Result.{is_success}
use Rattle.run_events.specs.Stats.{is_flaky_failure}
use Rattle.run_report.specs.Finish.{last_attempt}
use Rattle.run_junit.specs.declared.case.Ended.{Ended}
use Rattle.run_junit.specs.declared.case.Ended.TheVariants as ends
use Rattle.run_junit.specs.declared.reason.Fault.{Fault}
use Rattle.run_junit.specs.declared.reason.Fault.TheVariants as faults
use Rattle.run_junit.specs.declared.tag.Key.TheVariants as keys
use Rattle.run_junit.specs.declared.tag.Tag.{Tag}
use Rattle.run_junit.specs.declared.tag.Tag.TheVariants as tags
use Rattle.run_junit.specs.Reasons.{child_said, fault_by_result, fault_tag, flaky_said, flaky_tag, reason_said}
use Rattle.run_junit.specs.Reasons.{rerun_tag}
use Rattle.run_junit.specs.Reasons.{type_said}
use Rattle.run_junit.specs.Texts.{times_said}
use Rattle.run_junit.specs.Tokens.{Attribute, Token, end, line, start, written}

-- a stream in an element so deep, where it was captured
abbrev pub stream_tokens : ℕ → Tag → Option (List ℕ) → List Token
stream_tokens depth tag (Some bytes) = line depth ∷ start tag [] ∷ written bytes ∷ end tag ∷ []
stream_tokens depth tag None = []

abbrev pub streams_tokens : ℕ → ChildOutput → List Token
streams_tokens depth (Split split) =
    stream_tokens depth tags.SystemOut split.stdout ++ stream_tokens depth tags.SystemErr split.stderr
streams_tokens depth (Combined output) = stream_tokens depth tags.SystemOut (Some output)

-- what a child wrote
unfoldable pub output_tokens : ℕ → ChildExecutionOutput → List Token
output_tokens depth (StartError text) = []
output_tokens depth (Output output errors) = streams_tokens depth output

-- where a case begins, of something that was let go at this moment, and took so long
abbrev pub case_said : Option ℕ → List ℕ → List ℕ → ℕ → ℕ → List Attribute
case_said started name class at time = (keys.Name, name) ∷ (keys.ClassName, class) ∷ times_said started at time

abbrev pub case_start : Option ℕ → List ℕ → List ℕ → ℕ → ℕ → List Token
case_start started name class at time = line 2 ∷ start tags.TestCase (case_said started name class at time) ∷ []

-- where it ends
abbrev pub case_end : List Token
case_end = line 2 ∷ end tags.TestCase ∷ []

-- why a case is none of a success
abbrev pub reason_tokens : Fault → List ℕ → List ℕ → List Token
reason_tokens fault message kind =
    line 3 ∷ start (fault_tag fault) (reason_said message kind) ∷ end (fault_tag fault) ∷ []

-- why an attempt is none, and what it wrote
abbrev pub why_tokens : ExecutionResult → ChildExecutionOutput → List Token
why_tokens ended child =
    reason_tokens (fault_by_result ended) (child_said child) (type_said ended) ++ output_tokens 3 child

-- how a finished test ended: the first that holds
abbrev pub ended_test : TestFinish → ExecutionResult → Ended
ended_test finish last = if not (is_success last) then ends.Failed
    else if is_flaky_failure finish.flaky (nat_lt 1 (length finish.statuses)) last then ends.FlakyFailed
    else ends.Passed

-- the result of its last attempt; one with no attempt could not be run
abbrev pub result_of_last : Option ExecuteStatus → ExecutionResult
result_of_last (Some last) = last.result
result_of_last None = ExecFail

abbrev pub ended_of : TestFinish → Ended
ended_of finish = ended_test finish (result_of_last (last_attempt finish))

-- the attempt that its case is: the first of one that failed, and else the last
abbrev pub main_by : Ended → TestFinish → Option ExecuteStatus
main_by ends.Failed finish = slice_get finish.statuses 0
main_by ends.FlakyFailed finish = last_attempt finish
main_by ends.Passed finish = last_attempt finish

abbrev pub main_of : TestFinish → Option ExecuteStatus
main_of finish = main_by (ended_of finish) finish

-- its other attempts, in order
abbrev pub others_by : Ended → TestFinish → List ExecuteStatus
others_by ends.Failed finish = drop 1 finish.statuses
others_by ends.FlakyFailed finish = take (length finish.statuses - 1) finish.statuses
others_by ends.Passed finish = take (length finish.statuses - 1) finish.statuses

-- the element of another attempt
abbrev pub other_tag : Ended → Fault → Tag
other_tag ends.Passed fault = flaky_tag fault
other_tag ends.FlakyFailed fault = rerun_tag fault
other_tag ends.Failed fault = rerun_tag fault

-- another attempt, in an element of this tag
abbrev pub attempt_attributes : Option ℕ → ExecuteStatus → List Attribute
attempt_attributes started status =
    times_said started status.start status.time ++ reason_said (child_said status.output) (type_said status.result)

abbrev pub attempt_tokens : Option ℕ → Tag → ExecuteStatus → List Token
attempt_tokens started tag status =
    (line 3 ∷ start tag (attempt_attributes started status) ∷ [])
    ++ (output_tokens 4 status.output ++ (line 3 ∷ end tag ∷ []))

-- the same, unless it passed
abbrev pub other_tokens : Option ℕ → Ended → ExecuteStatus → List Token
other_tokens started ended status = if is_success status.result then []
    else attempt_tokens started (other_tag ended (fault_by_result status.result)) status

unfoldable pub others_tokens : Option ℕ → Ended → List ExecuteStatus → List Token
others_tokens started ended others = flat_map (other_tokens started ended) others

-- why the case of a test is none of a success
abbrev pub test_reason : Ended → ExecuteStatus → List Token
test_reason ends.Passed main = []
test_reason ends.FlakyFailed main = reason_tokens faults.Failure (flaky_said main) (codes "flaky failure")
test_reason ends.Failed main =
    reason_tokens (fault_by_result main.result) (child_said main.output) (type_said main.result)

-- what its attempt wrote, where it failed
abbrev pub test_output : Ended → ExecuteStatus → List Token
test_output ends.Passed main = []
test_output ends.FlakyFailed main = output_tokens 3 main.output
test_output ends.Failed main = output_tokens 3 main.output

-- the case of a test that is this attempt; of one with no attempt that it could not be run
abbrev pub test_by : Option ℕ → TestFinish → Ended → Option ExecuteStatus → List Token
test_by started finish ended (Some main) =
    case_start started finish.test.id.name finish.test.id.binary main.start main.time
    ++ (test_reason ended main ++ (others_tokens started ended (others_by ended finish)
    ++ (test_output ended main ++ case_end)))
test_by started finish ended None =
    case_start started finish.test.id.name finish.test.id.binary 0 0
    ++ (reason_tokens faults.Error [] (type_said ExecFail) ++ case_end)

-- the case of a finished test
unfoldable pub test_tokens : Option ℕ → TestFinish → List Token
test_tokens started finish = test_by started finish (ended_of finish) (main_of finish)

-- a variable that a script handed on
abbrev pub variable_tokens : Pair → List Token
variable_tokens variable = line 4 ∷ start tags.Property ((keys.Name, codes "output:" ++ variable.0)
    ∷ (keys.Value, variable.1) ∷ []) ∷ end tags.Property ∷ []

-- its variables, where it handed some on
abbrev pub variables_tokens : List Pair → List Token
variables_tokens [] = []
variables_tokens (first ∷ later) = (line 3 ∷ start tags.Properties [] ∷ [])
    ++ (flat_map variable_tokens (first ∷ later) ++ (line 3 ∷ end tags.Properties ∷ []))

abbrev pub env_tokens : ScriptEnv → List Token
env_tokens envs.Unread = []
env_tokens (envs.Variables map) = variables_tokens map
env_tokens (envs.Fault fault) = []

-- why a script is none of a success, and what it wrote then
abbrev pub script_why : ScriptFinish → List Token
script_why finish = if is_success finish.status.result then []
    else why_tokens finish.status.result finish.status.output

-- the case of a finished script
unfoldable pub script_tokens : Option ℕ → ScriptFinish → List Token
script_tokens started finish =
    case_start started finish.script.id finish.script.id finish.status.start finish.status.time
    ++ (env_tokens finish.status.env ++ (script_why finish ++ case_end))
