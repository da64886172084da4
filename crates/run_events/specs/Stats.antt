-- What finished tests and setup scripts add to the statistics of a run.
use Rattle.std.specs.Prelude.{Bool, true, false, ◌&&◌, if◌then◌else◌, ℕ, ◌+◌, ◌<◌, nat_lt, length, List, [], ◌∷◌}
use Rattle.std.specs.Prelude.{sum_by, None}
use Rattle.run_events.specs.declared.stats.RunStats.{RunStats}
use Rattle.run_events.specs.declared.result.ExecutionResult.{ExecutionResult}
use Rattle.run_events.specs.declared.result.ExecutionResult.TheVariants.{Pass, Leak, Fail, ExecFail, Timeout}
use Rattle.run_events.specs.declared.result.LeakTimeoutResult.TheVariants as leaks
use Rattle.run_events.specs.declared.result.SlowTimeoutResult.TheVariants as timeouts
use Rattle.run_events.specs.declared.result.FlakyResult.{FlakyResult}
use Rattle.run_events.specs.declared.result.FlakyResult.TheVariants as flakies
use Rattle.run_events.specs.Result.{is_success}

-- a finished test: the results of its attempts, whether the last was slow, and its flaky setting
pub record FinishedTest : Type 0 where
  pub results : List ExecutionResult
  pub slow : Bool
  pub flaky : FlakyResult

-- the last of a list, and another where it is empty
abbrev pub last_or : {X : Type 0} → X → List X → X
last_or other [] = other
last_or other (x ∷ xs) = last_or x xs

-- 1 where it holds
abbrev pub one_if : Bool → ℕ
one_if true = 1
one_if false = 0

-- statistics that count nothing
abbrev pub nothing : RunStats
nothing = record {
  initial_run_count = 0;
  finished_count = 0;
  setup_scripts_initial_count = 0;
  setup_scripts_finished_count = 0;
  setup_scripts_passed = 0;
  setup_scripts_failed = 0;
  setup_scripts_exec_failed = 0;
  setup_scripts_timed_out = 0;
  passed = 0;
  passed_slow = 0;
  passed_timed_out = 0;
  flaky = 0;
  failed = 0;
  failed_slow = 0;
  failed_timed_out = 0;
  leaky = 0;
  leaky_failed = 0;
  exec_failed = 0;
  skipped = 0;
  cancel_reason = None;
}

-- whether a test passed only after a retry, where that counts as a failure
abbrev pub is_flaky_failure : FlakyResult → Bool → ExecutionResult → Bool
is_flaky_failure flakies.Fail retried last = retried && is_success last
is_flaky_failure flakies.Pass retried last = false

-- what a failed test adds, by whether it was slow
abbrev pub failed_adds : Bool → RunStats
failed_adds slow = record nothing { finished_count = 1; failed = 1; failed_slow = one_if slow }

-- what a test that is no flaky failure adds, by whether it was retried and slow, and its last result
abbrev pub last_adds : Bool → Bool → ExecutionResult → RunStats
last_adds retried slow Pass = record nothing
    { finished_count = 1; passed = 1; passed_slow = one_if slow; flaky = one_if retried }
last_adds retried slow (Leak leaks.Pass) = record nothing
    { finished_count = 1; passed = 1; passed_slow = one_if slow; flaky = one_if retried; leaky = 1 }
last_adds retried slow (Timeout timeouts.Pass) = record nothing
    { finished_count = 1; passed = 1; passed_timed_out = 1; flaky = one_if retried }
last_adds retried slow (Leak leaks.Fail) = record (failed_adds slow) { leaky_failed = 1 }
last_adds retried slow (Fail status leaked) = failed_adds slow
last_adds retried slow (Timeout timeouts.Fail) = record nothing
    { finished_count = 1; failed_timed_out = 1 }
last_adds retried slow ExecFail = record nothing { finished_count = 1; exec_failed = 1 }

-- what a test adds by its last result
abbrev pub test_adds : FlakyResult → Bool → Bool → ExecutionResult → RunStats
test_adds flaky retried slow last =
    if is_flaky_failure flaky retried last then failed_adds slow else last_adds retried slow last

-- what a finished test adds: its last attempt decides
unfoldable pub adds_of : FinishedTest → RunStats
adds_of test =
    test_adds test.flaky (nat_lt 1 (length test.results)) test.slow (last_or ExecFail test.results)

-- what each finished setup script adds
abbrev pub script_finished : RunStats
script_finished = record nothing { setup_scripts_finished_count = 1 }

-- what a finished setup script adds, by its result
abbrev pub script_adds : ExecutionResult → RunStats
script_adds Pass = record script_finished { setup_scripts_passed = 1 }
script_adds (Leak leaks.Pass) = record script_finished { setup_scripts_passed = 1 }
script_adds (Timeout timeouts.Pass) = record script_finished { setup_scripts_passed = 1 }
script_adds (Leak leaks.Fail) = record script_finished { setup_scripts_failed = 1 }
script_adds (Fail status leaked) = record script_finished { setup_scripts_failed = 1 }
script_adds (Timeout timeouts.Fail) = record script_finished { setup_scripts_timed_out = 1 }
script_adds ExecFail = record script_finished { setup_scripts_exec_failed = 1 }

-- the sum of two statistics, field by field, with the cancel reason of the first
unfoldable pub plus : RunStats → RunStats → RunStats
plus a b = record {
  initial_run_count = a.initial_run_count + b.initial_run_count;
  finished_count = a.finished_count + b.finished_count;
  setup_scripts_initial_count = a.setup_scripts_initial_count + b.setup_scripts_initial_count;
  setup_scripts_finished_count = a.setup_scripts_finished_count + b.setup_scripts_finished_count;
  setup_scripts_passed = a.setup_scripts_passed + b.setup_scripts_passed;
  setup_scripts_failed = a.setup_scripts_failed + b.setup_scripts_failed;
  setup_scripts_exec_failed = a.setup_scripts_exec_failed + b.setup_scripts_exec_failed;
  setup_scripts_timed_out = a.setup_scripts_timed_out + b.setup_scripts_timed_out;
  passed = a.passed + b.passed;
  passed_slow = a.passed_slow + b.passed_slow;
  passed_timed_out = a.passed_timed_out + b.passed_timed_out;
  flaky = a.flaky + b.flaky;
  failed = a.failed + b.failed;
  failed_slow = a.failed_slow + b.failed_slow;
  failed_timed_out = a.failed_timed_out + b.failed_timed_out;
  leaky = a.leaky + b.leaky;
  leaky_failed = a.leaky_failed + b.leaky_failed;
  exec_failed = a.exec_failed + b.exec_failed;
  skipped = a.skipped + b.skipped;
  cancel_reason = a.cancel_reason;
}

-- the sum of what each of a list adds, on top of a start
unfoldable pub total_by : {X : Type 0} → (X → RunStats) → RunStats → List X → RunStats
total_by adds start xs = record {
  initial_run_count = start.initial_run_count + sum_by (λ x. (adds x).initial_run_count) xs;
  finished_count = start.finished_count + sum_by (λ x. (adds x).finished_count) xs;
  setup_scripts_initial_count =
      start.setup_scripts_initial_count + sum_by (λ x. (adds x).setup_scripts_initial_count) xs;
  setup_scripts_finished_count =
      start.setup_scripts_finished_count + sum_by (λ x. (adds x).setup_scripts_finished_count) xs;
  setup_scripts_passed = start.setup_scripts_passed + sum_by (λ x. (adds x).setup_scripts_passed) xs;
  setup_scripts_failed = start.setup_scripts_failed + sum_by (λ x. (adds x).setup_scripts_failed) xs;
  setup_scripts_exec_failed = start.setup_scripts_exec_failed + sum_by (λ x. (adds x).setup_scripts_exec_failed) xs;
  setup_scripts_timed_out = start.setup_scripts_timed_out + sum_by (λ x. (adds x).setup_scripts_timed_out) xs;
  passed = start.passed + sum_by (λ x. (adds x).passed) xs;
  passed_slow = start.passed_slow + sum_by (λ x. (adds x).passed_slow) xs;
  passed_timed_out = start.passed_timed_out + sum_by (λ x. (adds x).passed_timed_out) xs;
  flaky = start.flaky + sum_by (λ x. (adds x).flaky) xs;
  failed = start.failed + sum_by (λ x. (adds x).failed) xs;
  failed_slow = start.failed_slow + sum_by (λ x. (adds x).failed_slow) xs;
  failed_timed_out = start.failed_timed_out + sum_by (λ x. (adds x).failed_timed_out) xs;
  leaky = start.leaky + sum_by (λ x. (adds x).leaky) xs;
  leaky_failed = start.leaky_failed + sum_by (λ x. (adds x).leaky_failed) xs;
  exec_failed = start.exec_failed + sum_by (λ x. (adds x).exec_failed) xs;
  skipped = start.skipped + sum_by (λ x. (adds x).skipped) xs;
  cancel_reason = start.cancel_reason;
}

-- the statistics after these tests have finished
abbrev pub total : RunStats → List FinishedTest → RunStats
total start tests = total_by adds_of start tests

-- the statistics after setup scripts with these results have finished
abbrev pub script_total : RunStats → List ExecutionResult → RunStats
script_total start results = total_by script_adds start results

-- each count is below a limit
pub record AreBelow (limit : ℕ) (stats : RunStats) : Type 0 where
  pub initial_run_count : stats.initial_run_count < limit
  pub finished_count : stats.finished_count < limit
  pub setup_scripts_initial_count : stats.setup_scripts_initial_count < limit
  pub setup_scripts_finished_count : stats.setup_scripts_finished_count < limit
  pub setup_scripts_passed : stats.setup_scripts_passed < limit
  pub setup_scripts_failed : stats.setup_scripts_failed < limit
  pub setup_scripts_exec_failed : stats.setup_scripts_exec_failed < limit
  pub setup_scripts_timed_out : stats.setup_scripts_timed_out < limit
  pub passed : stats.passed < limit
  pub passed_slow : stats.passed_slow < limit
  pub passed_timed_out : stats.passed_timed_out < limit
  pub flaky : stats.flaky < limit
  pub failed : stats.failed < limit
  pub failed_slow : stats.failed_slow < limit
  pub failed_timed_out : stats.failed_timed_out < limit
  pub leaky : stats.leaky < limit
  pub leaky_failed : stats.leaky_failed < limit
  pub exec_failed : stats.exec_failed < limit
  pub skipped : stats.skipped < limit
