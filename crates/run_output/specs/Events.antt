-- The line of an event: its moment and its active time, its kind, and the fields of its kind.
use Rattle.std.specs.Prelude.{ℕ, List, [], ◌∷◌, Option, Some, codes}
use Rattle.serde_json.specs.Data.{Data, string}
use Rattle.run_events.specs.declared.events.ReporterEvent.{ReporterEvent}
use Rattle.run_events.specs.declared.events.ReporterEvent.TheVariants.{Tick, Test}
use Rattle.run_events.specs.declared.events.TestEvent.{TestEvent}
use Rattle.run_events.specs.declared.events.TestEventKind.{TestEventKind}
use Rattle.run_events.specs.declared.events.TestEventKind.TheVariants as kinds
use Rattle.run_output.specs.Fields.{count, object_text}
use Rattle.run_output.specs.EventsOfInfo.{info_started_fields, info_answered_fields, info_finished_fields}
use Rattle.run_output.specs.EventsOfRun.{run_started_fields, sub_run_started_fields, sub_run_finished_fields}
use Rattle.run_output.specs.EventsOfRun.{input_entered_fields, run_cancelled_fields, job_controlled_fields}
use Rattle.run_output.specs.EventsOfRun.{run_finished_fields}
use Rattle.run_output.specs.EventsOfScripts.{script_started_fields, script_slow_fields, script_finished_fields}
use Rattle.run_output.specs.EventsOfTests.{test_started_fields, test_slow_fields, attempt_failed_fields}
use Rattle.run_output.specs.EventsOfTests.{retry_started_fields, test_finished_fields, test_skipped_fields}

-- each kind of event by its word
unfoldable pub event_word : TestEventKind → List ℕ
event_word (kinds.RunStarted event) = codes "run-started"
event_word (kinds.StressSubRunStarted progress) = codes "sub-run-started"
event_word (kinds.StressSubRunFinished event) = codes "sub-run-finished"
event_word (kinds.SetupScriptStarted event) = codes "script-started"
event_word (kinds.SetupScriptSlow event) = codes "script-slow"
event_word (kinds.SetupScriptFinished event) = codes "script-finished"
event_word (kinds.TestStarted event) = codes "test-started"
event_word (kinds.TestSlow event) = codes "test-slow"
event_word (kinds.TestAttemptFailedWillRetry event) = codes "test-attempt-failed"
event_word (kinds.TestRetryStarted event) = codes "test-retry-started"
event_word (kinds.TestFinished event) = codes "test-finished"
event_word (kinds.TestSkipped event) = codes "test-skipped"
event_word (kinds.InfoStarted event) = codes "info-started"
event_word (kinds.InfoResponse event) = codes "info-response"
event_word (kinds.InfoFinished missing) = codes "info-finished"
event_word (kinds.InputEnter event) = codes "input-enter"
event_word (kinds.RunBeginCancel event) = codes "run-begin-cancel"
event_word (kinds.RunBeginKill event) = codes "run-begin-kill"
event_word (kinds.RunPaused event) = codes "run-paused"
event_word (kinds.RunContinued event) = codes "run-continued"
event_word (kinds.RunFinished event) = codes "run-finished"

-- the fields of each kind
abbrev pub kind_fields : TestEventKind → List (List ℕ × Option Data)
kind_fields (kinds.RunStarted event) = run_started_fields event
kind_fields (kinds.StressSubRunStarted progress) = sub_run_started_fields progress
kind_fields (kinds.StressSubRunFinished event) = sub_run_finished_fields event
kind_fields (kinds.SetupScriptStarted event) = script_started_fields event
kind_fields (kinds.SetupScriptSlow event) = script_slow_fields event
kind_fields (kinds.SetupScriptFinished event) = script_finished_fields event
kind_fields (kinds.TestStarted event) = test_started_fields event
kind_fields (kinds.TestSlow event) = test_slow_fields event
kind_fields (kinds.TestAttemptFailedWillRetry event) = attempt_failed_fields event
kind_fields (kinds.TestRetryStarted event) = retry_started_fields event
kind_fields (kinds.TestFinished event) = test_finished_fields event
kind_fields (kinds.TestSkipped event) = test_skipped_fields event
kind_fields (kinds.InfoStarted event) = info_started_fields event
kind_fields (kinds.InfoResponse event) = info_answered_fields event
kind_fields (kinds.InfoFinished missing) = info_finished_fields missing
kind_fields (kinds.InputEnter event) = input_entered_fields event
kind_fields (kinds.RunBeginCancel event) = run_cancelled_fields event
kind_fields (kinds.RunBeginKill event) = run_cancelled_fields event
kind_fields (kinds.RunPaused event) = job_controlled_fields event
kind_fields (kinds.RunContinued event) = job_controlled_fields event
kind_fields (kinds.RunFinished event) = run_finished_fields event

-- the fields of an event of the run
unfoldable pub event_fields : TestEvent → List (List ℕ × Option Data)
event_fields event =
    (codes "clock", Some (count event.clock))
    ∷ (codes "elapsed", Some (count event.elapsed))
    ∷ (codes "event", Some (string (event_word event.kind)))
    ∷ kind_fields event.kind

-- its line
abbrev pub test_event_text : TestEvent → List ℕ
test_event_text event = object_text (event_fields event)

-- the line of what a reporter is told
abbrev pub event_text : ReporterEvent → List ℕ
event_text Tick = object_text ((codes "event", Some (string (codes "tick"))) ∷ [])
event_text (Test event) = test_event_text event
