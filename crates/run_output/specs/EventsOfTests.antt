-- The fields of the events of tests. The unit's number isn't printed.
use Rattle.std.specs.Prelude.{ℕ, List, [], ◌∷◌, Option, Some, option_map, codes}
use Rattle.serde_json.specs.Data.{Data, boolean, string}
use Rattle.run_events.specs.declared.events.AttemptFailedWillRetry.{AttemptFailedWillRetry}
use Rattle.run_events.specs.declared.events.RetryStarted.{RetryStarted}
use Rattle.run_events.specs.declared.events.TestFinished.{TestFinished}
use Rattle.run_events.specs.declared.events.TestStarted.{TestStarted}
use Rattle.run_events.specs.declared.message.TestSkip.{TestSkip}
use Rattle.run_events.specs.declared.message.TestSlow.{TestSlow}
use Rattle.run_output.specs.Fields.{count, texts, array_of}
use Rattle.run_output.specs.Slots.{slot_data}
use Rattle.run_output.specs.Stats.{stats_data}
use Rattle.run_output.specs.Statuses.{status_data}
use Rattle.run_output.specs.Stress.{index_data}
use Rattle.run_output.specs.Texts.{test_data}

-- a test started
unfoldable pub test_started_fields : TestStarted → List (List ℕ × Option Data)
test_started_fields event =
    (codes "command", Some (texts event.start.command))
    ∷ (codes "running", Some (count event.running))
    ∷ (codes "slot", Some (slot_data event.start.slot))
    ∷ (codes "stats", Some (stats_data event.stats))
    ∷ (codes "stress_index", option_map index_data event.start.test.stress_index)
    ∷ (codes "test", Some (test_data event.start.test.id))
    ∷ []

-- an attempt of a test is slow
unfoldable pub test_slow_fields : TestSlow → List (List ℕ × Option Data)
test_slow_fields event =
    (codes "attempt", Some (count event.attempt))
    ∷ (codes "attempts", Some (count event.attempts))
    ∷ (codes "elapsed_slow", Some (count event.elapsed_slow))
    ∷ (codes "stress_index", option_map index_data event.test.stress_index)
    ∷ (codes "terminates", Some (boolean event.terminates))
    ∷ (codes "test", Some (test_data event.test.id))
    ∷ []

-- an attempt of a test failed, and the next one comes after a delay
unfoldable pub attempt_failed_fields : AttemptFailedWillRetry → List (List ℕ × Option Data)
attempt_failed_fields event =
    (codes "delay_next", Some (count event.failed.delay_next))
    ∷ (codes "running", Some (count event.running))
    ∷ (codes "status", Some (status_data event.failed.status))
    ∷ (codes "stress_index", option_map index_data event.failed.test.stress_index)
    ∷ (codes "test", Some (test_data event.failed.test.id))
    ∷ []

-- a further attempt of a test started
unfoldable pub retry_started_fields : RetryStarted → List (List ℕ × Option Data)
retry_started_fields event =
    (codes "attempt", Some (count event.retry.attempt))
    ∷ (codes "attempts", Some (count event.retry.attempts))
    ∷ (codes "command", Some (texts event.retry.start.command))
    ∷ (codes "running", Some (count event.running))
    ∷ (codes "slot", Some (slot_data event.retry.start.slot))
    ∷ (codes "stress_index", option_map index_data event.retry.start.test.stress_index)
    ∷ (codes "test", Some (test_data event.retry.start.test.id))
    ∷ []

-- a test finished
unfoldable pub test_finished_fields : TestFinished → List (List ℕ × Option Data)
test_finished_fields event =
    (codes "running", Some (count event.running))
    ∷ (codes "stats", Some (stats_data event.stats))
    ∷ (codes "statuses", Some (array_of status_data event.finish.statuses))
    ∷ (codes "stress_index", option_map index_data event.finish.test.stress_index)
    ∷ (codes "test", Some (test_data event.finish.test.id))
    ∷ []

-- a test was skipped
unfoldable pub test_skipped_fields : TestSkip → List (List ℕ × Option Data)
test_skipped_fields event =
    (codes "reason", Some (string event.reason))
    ∷ (codes "stress_index", option_map index_data event.test.stress_index)
    ∷ (codes "test", Some (test_data event.test.id))
    ∷ []
