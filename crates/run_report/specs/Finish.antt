-- What a finished test is to a report.
use Rattle.std.specs.Prelude.{ℕ, Bool, true, false, not, ◌-◌, nat_lt, if◌then◌else◌, List, ◌++◌, length}
use Rattle.std.specs.Prelude.{slice_get}
use Rattle.std.specs.Prelude.{Option, Some, None, codes, decimal}
use Rattle.run_events.specs.declared.message.TestFinish.{TestFinish}
use Rattle.run_events.specs.declared.result.ExecuteStatus.{ExecuteStatus}
use Rattle.run_events.specs.declared.result.ExecutionResult.{ExecutionResult}
use Rattle.run_events.specs.declared.result.ExecutionResult.TheVariants.{Leak, ExecFail}
use Rattle.run_events.specs.declared.result.FlakyResult.{FlakyResult}
use Rattle.run_events.specs.Result.{is_success}
use Rattle.run_events.specs.Stats.{is_flaky_failure}
use Rattle.run_report.specs.declared.finish.FinishKind.{FinishKind}
use Rattle.run_report.specs.declared.finish.FinishKind.TheVariants as kinds
use Rattle.run_report.specs.declared.finish.Verdict.{Verdict}
use Rattle.run_report.specs.declared.levels.StatusLevel.{StatusLevel}
use Rattle.run_report.specs.declared.levels.StatusLevel.TheVariants as levels
use Rattle.run_report.specs.declared.levels.FinalStatusLevel.{FinalStatusLevel}
use Rattle.run_report.specs.declared.levels.FinalStatusLevel.TheVariants as finals
use Rattle.run_report.specs.declared.levels.OutputDisplay.{OutputDisplay}
use Rattle.run_report.specs.declared.levels.ReportSettings.{ReportSettings}
use Rattle.run_report.specs.declared.style.Style.{Style}
use Rattle.run_report.specs.declared.style.Style.TheVariants as styles
use Rattle.run_report.specs.Words.{long_word, short_word}

-- a result with an open descriptor that counts as a pass
abbrev pub is_leak : ExecutionResult → Bool
is_leak (Leak leak) = true
is_leak _ = false

-- how a test finished, by its last attempt: the first that holds
abbrev pub kind_by : FlakyResult → Bool → Bool → ExecutionResult → FinishKind
kind_by flaky retried slow ended =
    if not (is_success ended) then kinds.Failed
    else if is_flaky_failure flaky retried ended then kinds.FlakyFailed
    else if retried then kinds.Flaky
    else if slow then kinds.Slow
    else if is_leak ended then kinds.Leaky
    else kinds.Passed

-- the last of a test's attempts
abbrev pub last_attempt : TestFinish → Option ExecuteStatus
last_attempt finish = slice_get finish.statuses (length finish.statuses - 1)

-- what is said of a finished test by its last attempt; one with no attempt failed to run
abbrev pub verdict_by : TestFinish → Option ExecuteStatus → Verdict
verdict_by finish (Some last) = record {
  kind = kind_by finish.flaky (nat_lt 1 (length finish.statuses)) last.slow last.result;
  ended = last.result;
  tries = length finish.statuses;
  attempts = last.attempts;
  time = last.time;
}
verdict_by finish None = record { kind = kinds.Failed; ended = ExecFail; tries = 0; attempts = 0; time = 0 }

-- what is said of a finished test
abbrev pub verdict_of : TestFinish → Verdict
verdict_of finish = verdict_by finish (last_attempt finish)

-- whether it counts as failed
abbrev pub counts_failed : FinishKind → Bool
counts_failed kinds.FlakyFailed = true
counts_failed kinds.Failed = true
counts_failed kinds.Flaky = false
counts_failed kinds.Slow = false
counts_failed kinds.Leaky = false
counts_failed kinds.Passed = false

-- whether it passed only after a retry, and failed for that
abbrev pub is_flaky_fail : FinishKind → Bool
is_flaky_fail kinds.FlakyFailed = true
is_flaky_fail _ = false

-- whether it passed only after a retry
abbrev pub is_flaky : FinishKind → Bool
is_flaky kinds.Flaky = true
is_flaky _ = false

-- the least level that shows its line
abbrev pub status_level : FinishKind → StatusLevel
status_level kinds.FlakyFailed = levels.Fail
status_level kinds.Failed = levels.Fail
status_level kinds.Flaky = levels.Retry
status_level kinds.Slow = levels.Slow
status_level kinds.Leaky = levels.Leak
status_level kinds.Passed = levels.Pass

-- the least level that shows its line again at the end
abbrev pub final_level : FinishKind → FinalStatusLevel
final_level kinds.FlakyFailed = finals.Fail
final_level kinds.Failed = finals.Fail
final_level kinds.Flaky = finals.Flaky
final_level kinds.Slow = finals.Slow
final_level kinds.Leaky = finals.Leak
final_level kinds.Passed = finals.Pass

-- the style of its word
abbrev pub kind_style : FinishKind → Style
kind_style kinds.FlakyFailed = styles.Red
kind_style kinds.Failed = styles.Red
kind_style kinds.Flaky = styles.Yellow
kind_style kinds.Slow = styles.Yellow
kind_style kinds.Leaky = styles.Yellow
kind_style kinds.Passed = styles.Green

-- when its output is shown
abbrev pub output_when : ReportSettings → FinishKind → OutputDisplay
output_when settings kind = if counts_failed kind then settings.failure_output else settings.success_output

-- the word of its last attempt, behind the number of that where there were others
unfoldable pub tried_word : Verdict → List ℕ
tried_word verdict = if nat_lt 1 verdict.tries
    then codes "TRY " ++ (decimal verdict.tries ++ (codes " " ++ short_word verdict.ended))
    else long_word verdict.ended

-- how many of its attempts it took
abbrev pub of_attempts : Verdict → List ℕ
of_attempts verdict = decimal verdict.tries ++ (codes "/" ++ decimal verdict.attempts)

-- its word where the finish is told
unfoldable pub told_word : Verdict → List ℕ
told_word verdict = if is_flaky_fail verdict.kind then codes "FLKY-FL " ++ of_attempts verdict else tried_word verdict

-- its word where it is shown again
unfoldable pub final_word : Verdict → List ℕ
final_word verdict = if is_flaky verdict.kind then codes "FLAKY " ++ of_attempts verdict else told_word verdict
