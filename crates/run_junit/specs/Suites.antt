-- Finished tests and setup scripts, in suites.
use Rattle.std.specs.Prelude.{ℕ, Bool, true, false, not, ◌&&◌, if◌then◌else◌, List, [], ◌∷◌, ◌++◌, length, bytes_eq}
use Rattle.std.specs.Prelude.{codes, decimal, count_by, Option, Some, None}
use Rattle.std.specs.List.{filter_map, list_any}
use Rattle.run_events.specs.declared.events.ReporterEvent.{ReporterEvent}
use Rattle.run_events.specs.declared.events.ReporterEvent.TheVariants.{Tick, Test}
use Rattle.run_events.specs.declared.events.TestEventKind.{TestEventKind}
use Rattle.run_events.specs.declared.events.TestEventKind.TheVariants as kinds
use Rattle.run_events.specs.declared.message.ScriptFinish.{ScriptFinish}
use Rattle.run_events.specs.declared.message.TestFinish.{TestFinish}
use Rattle.run_events.specs.declared.result.ExecuteStatus.{ExecuteStatus}
use Rattle.run_events.specs.declared.stress.StressIndex.{StressIndex}
use Rattle.run_events.specs.Result.{is_success}
use Rattle.run_junit.specs.declared.case.Ended.{Ended}
use Rattle.run_junit.specs.declared.case.Ended.TheVariants as ends
use Rattle.run_junit.specs.declared.reason.Fault.{Fault}
use Rattle.run_junit.specs.declared.reason.Fault.TheVariants as faults
use Rattle.run_junit.specs.declared.suites.Counts.{Counts}
use Rattle.run_junit.specs.Cases.{ended_of, main_of, script_tokens, test_tokens}
use Rattle.run_junit.specs.Reasons.{fault_by_result}
use Rattle.run_junit.specs.Tokens.{Token}

-- what finished
pub data Finish : Type 0 where
  test : TestFinish → Finish
  script : ScriptFinish → Finish

-- the finish that an event tells
abbrev pub unit_finish_in_kind : TestEventKind → Option Finish
unit_finish_in_kind (kinds.TestFinished told) = Some (test told.finish)
unit_finish_in_kind (kinds.SetupScriptFinished told) = Some (script told)
unit_finish_in_kind _ = None

abbrev pub unit_finish : ReporterEvent → Option Finish
unit_finish Tick = None
unit_finish (Test event) = unit_finish_in_kind event.kind

-- all finishes that events tell
abbrev pub finishes_heard : List ReporterEvent → List Finish
finishes_heard told = filter_map unit_finish told

-- the sub-run that a suite is of, in a stress run
abbrev pub sub_run_lead : Option StressIndex → List ℕ
sub_run_lead (Some index) = codes "@stress-" ++ (decimal index.current ++ codes ":")
sub_run_lead None = []

-- the suite of a finish: that of the binary of a test, or one of a script alone; in a stress run of each sub-run
unfoldable pub suite_of : Finish → List ℕ
suite_of (test finish) = sub_run_lead finish.test.stress_index ++ finish.test.id.binary
suite_of (script finish) = sub_run_lead finish.script.stress_index ++ (codes "@setup-script:" ++ finish.script.id)

-- as what the case of a test counts that ended so, if it is none of a success: one with no attempt is an error
abbrev pub fault_by : Ended → Option ExecuteStatus → Option Fault
fault_by ended None = Some faults.Error
fault_by ends.Passed (Some main) = None
fault_by ends.FlakyFailed (Some main) = Some faults.Failure
fault_by ends.Failed (Some main) = Some (fault_by_result main.result)

abbrev pub test_fault : TestFinish → Option Fault
test_fault finish = fault_by (ended_of finish) (main_of finish)

-- the same of a script
abbrev pub script_fault : ScriptFinish → Option Fault
script_fault finish = if is_success finish.status.result then None else Some (fault_by_result finish.status.result)

abbrev pub fault_counted : Finish → Option Fault
fault_counted (test finish) = test_fault finish
fault_counted (script finish) = script_fault finish

abbrev pub counts_as_failure : Option Fault → Bool
counts_as_failure (Some faults.Failure) = true
counts_as_failure (Some faults.Error) = false
counts_as_failure None = false

abbrev pub counts_as_error : Option Fault → Bool
counts_as_error (Some faults.Failure) = false
counts_as_error (Some faults.Error) = true
counts_as_error None = false

-- how many finishes there are, and how many of them count as failures and as errors
abbrev pub counts_of : List Finish → Counts
counts_of finishes = record {
  tests = length finishes;
  failures = count_by (λ finish. counts_as_failure (fault_counted finish)) finishes;
  errors = count_by (λ finish. counts_as_error (fault_counted finish)) finishes;
}

-- the case of a finish
abbrev pub case_tokens : Option ℕ → Finish → List Token
case_tokens started (test finish) = test_tokens started finish
case_tokens started (script finish) = script_tokens started finish

-- finishes of one name, in order
pub record Suite : Type 0 where
  pub name : List ℕ
  pub finishes : List Finish

-- an item that goes into the last one that it fits into, or else behind all
abbrev pub put_last : {S : Type 0} → (S → Bool) → (S → S) → S → List S → List S
put_last fits grown new [] = new ∷ []
put_last fits grown new (s ∷ ss) =
    if fits s && not (list_any fits ss) then grown s ∷ ss else s ∷ put_last fits grown new ss

-- a finish that goes into the suite of its name, or into a new one behind the others
abbrev pub put_finish : Finish → List Suite → List Suite
put_finish finish suites = put_last (λ suite. bytes_eq suite.name (suite_of finish))
    (λ suite. record suite { finishes = suite.finishes ++ finish ∷ [] })
    (record { name = suite_of finish; finishes = finish ∷ [] }) suites

-- finishes that go one after the other into suites
abbrev pub put_each : List Suite → List Finish → List Suite
put_each suites [] = suites
put_each suites (finish ∷ later) = put_each (put_finish finish suites) later

-- finishes in suites
unfoldable pub suites_of : List Finish → List Suite
suites_of finishes = put_each [] finishes
