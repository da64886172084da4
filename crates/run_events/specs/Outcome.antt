-- How a run ended, by its statistics.
use Rattle.std.specs.Prelude.{Bool, true, false, if◌then◌else◌, ℕ, ◌+◌, ◌-◌, ◌^◌, min, nat_lt, ◌||◌, ◌==◌, Option, Some}
use Rattle.std.specs.Prelude.{None}
use Rattle.run_events.specs.declared.stats.RunStats.{RunStats}
use Rattle.run_events.specs.declared.cancel.CancelReason.{CancelReason}
use Rattle.run_events.specs.declared.cancel.CancelReason.TheVariants.{SetupScriptFailure, TestFailure}
use Rattle.run_events.specs.declared.outcome.RunStep.{RunStep}
use Rattle.run_events.specs.declared.outcome.RunStep.TheVariants as steps
use Rattle.run_events.specs.declared.outcome.FinalRunStats.{FinalRunStats}
use Rattle.run_events.specs.declared.outcome.FinalRunStats.TheVariants as finals
use Rattle.run_events.specs.declared.outcome.RunOutcome.{RunOutcome}
use Rattle.run_events.specs.declared.outcome.RunOutcome.TheVariants as outcomes

-- how many tests failed, at most the greatest u64
abbrev pub failed_count : RunStats → ℕ
failed_count s = min (s.failed + s.exec_failed + s.failed_timed_out) (2 ^ 64 - 1)

-- whether a setup script failed
abbrev pub has_failed_script : RunStats → Bool
has_failed_script s =
    nat_lt 0 (s.setup_scripts_failed + s.setup_scripts_exec_failed + s.setup_scripts_timed_out)

-- whether a test or a setup script failed
abbrev pub has_failures : RunStats → Bool
has_failures s = nat_lt 0 (failed_count s) || has_failed_script s

-- whether a run was cancelled for more than a failure
abbrev pub is_above_failure : Option CancelReason → Bool
is_above_failure None = false
is_above_failure (Some SetupScriptFailure) = false
is_above_failure (Some TestFailure) = false
is_above_failure (Some reason) = true

-- a run with a failure at this step
abbrev pub ended_at : RunStep → Option CancelReason → FinalRunStats
ended_at step reason = if is_above_failure reason then finals.Cancelled reason step else finals.Failed step

-- the summary of a run's statistics at its end: the first that holds
unfoldable pub summary : RunStats → FinalRunStats
summary s =
    if has_failed_script s then ended_at steps.SetupScript s.cancel_reason
    else if nat_lt s.setup_scripts_finished_count s.setup_scripts_initial_count
    then finals.Cancelled s.cancel_reason steps.SetupScript
    else if nat_lt 0 (failed_count s) then ended_at steps.Test s.cancel_reason
    else if nat_lt s.finished_count s.initial_run_count then finals.Cancelled s.cancel_reason steps.Test
    else if s.finished_count == 0 then finals.NoTestsRun
    else finals.Success

-- the outcome of a run with this summary
abbrev pub outcome_of : FinalRunStats → RunOutcome
outcome_of finals.Success = outcomes.Success
outcome_of finals.NoTestsRun = outcomes.NoTestsRun
outcome_of (finals.Cancelled reason step) = outcomes.Cancelled step
outcome_of (finals.Failed step) = outcomes.Failed step

-- the order of outcomes
abbrev pub severity : RunOutcome → ℕ
severity outcomes.NoTestsRun = 0
severity outcomes.Success = 1
severity (outcomes.Failed step) = 2
severity (outcomes.Cancelled step) = 3

-- the outcome of two sub-runs together: the greater, of equally great ones the earlier
abbrev pub combined : RunOutcome → RunOutcome → RunOutcome
combined earlier later = if nat_lt (severity earlier) (severity later) then later else earlier
