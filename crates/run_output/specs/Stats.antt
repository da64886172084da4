-- The statistics of a run as an object: each count by its name, left out where it is 0.
use Rattle.std.specs.Prelude.{ℕ, List, [], ◌∷◌, ◌++◌, Option, option_map, codes}
use Rattle.serde_json.specs.Data.{Data, string}
use Rattle.run_events.specs.declared.cancel.CancelReason.{CancelReason}
use Rattle.run_events.specs.declared.cancel.CancelReason.TheVariants.{SetupScriptFailure, TestFailure, ReportError}
use Rattle.run_events.specs.declared.cancel.CancelReason.TheVariants.{GlobalTimeout, TestFailureImmediate, Signal}
use Rattle.run_events.specs.declared.cancel.CancelReason.TheVariants.{Interrupt, SecondSignal}
use Rattle.run_events.specs.declared.stats.RunStats.{RunStats}
use Rattle.run_output.specs.Fields.{nonzero, object_of}

-- a reason by its word
unfoldable pub reason_word : CancelReason → List ℕ
reason_word SetupScriptFailure = codes "setup-script-failure"
reason_word TestFailure = codes "test-failure"
reason_word ReportError = codes "report-error"
reason_word GlobalTimeout = codes "global-timeout"
reason_word TestFailureImmediate = codes "test-failure-immediate"
reason_word Signal = codes "signal"
reason_word Interrupt = codes "interrupt"
reason_word SecondSignal = codes "second-signal"

-- the counts of the run and of its setup scripts
unfoldable pub script_count_fields : RunStats → List (List ℕ × Option Data)
script_count_fields stats =
    (codes "initial_run_count", nonzero stats.initial_run_count)
    ∷ (codes "finished_count", nonzero stats.finished_count)
    ∷ (codes "setup_scripts_initial_count", nonzero stats.setup_scripts_initial_count)
    ∷ (codes "setup_scripts_finished_count", nonzero stats.setup_scripts_finished_count)
    ∷ (codes "setup_scripts_passed", nonzero stats.setup_scripts_passed)
    ∷ (codes "setup_scripts_failed", nonzero stats.setup_scripts_failed)
    ∷ (codes "setup_scripts_exec_failed", nonzero stats.setup_scripts_exec_failed)
    ∷ (codes "setup_scripts_timed_out", nonzero stats.setup_scripts_timed_out)
    ∷ []

-- the counts of its tests, and why it is cancelled
unfoldable pub test_fields : RunStats → List (List ℕ × Option Data)
test_fields stats =
    (codes "passed", nonzero stats.passed)
    ∷ (codes "passed_slow", nonzero stats.passed_slow)
    ∷ (codes "passed_timed_out", nonzero stats.passed_timed_out)
    ∷ (codes "flaky", nonzero stats.flaky)
    ∷ (codes "failed", nonzero stats.failed)
    ∷ (codes "failed_slow", nonzero stats.failed_slow)
    ∷ (codes "failed_timed_out", nonzero stats.failed_timed_out)
    ∷ (codes "leaky", nonzero stats.leaky)
    ∷ (codes "leaky_failed", nonzero stats.leaky_failed)
    ∷ (codes "exec_failed", nonzero stats.exec_failed)
    ∷ (codes "skipped", nonzero stats.skipped)
    ∷ (codes "cancel_reason", option_map (λ reason. string (reason_word reason)) stats.cancel_reason)
    ∷ []

-- all of them
abbrev pub stats_fields : RunStats → List (List ℕ × Option Data)
stats_fields stats = script_count_fields stats ++ test_fields stats

-- the object
abbrev pub stats_data : RunStats → Data
stats_data stats = object_of (stats_fields stats)
