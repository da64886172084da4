-- What the statistics of a run count, by the finishes that were told.
use Rattle.std.specs.Prelude.{ℕ, ◌≡◌, nat_lt, List, length, Bool, true, false, ◌&&◌, ◌||◌, not, count_by}
use Rattle.run_events.specs.Stats.{last_or}
use Rattle.run_events.specs.declared.result.ExecutionResult.{ExecutionResult}
use Rattle.run_events.specs.declared.result.ExecutionResult.TheVariants.{Leak, Fail, ExecFail, Timeout}
use Rattle.run_events.specs.declared.result.FlakyResult.{FlakyResult}
use Rattle.run_events.specs.declared.result.FlakyResult.TheVariants as flakies
use Rattle.run_events.specs.declared.result.LeakTimeoutResult.TheVariants as leaks
use Rattle.run_events.specs.declared.result.SlowTimeoutResult.TheVariants as timeouts
use Rattle.run_events.specs.declared.settings.Settings.{Settings}
use Rattle.run_events.specs.declared.stats.RunStats.{RunStats}
use Rattle.run_model.specs.declared.entry.Entry.{Entry}
use Rattle.run_model.specs.Journal.{IsLegal, past_of}
use Rattle.run_model.specs.Words.{FinishedUnit, a_script, a_test, finished, stats, sub_run}
use Rattle.run_laws_rows.specs.Results.{is_exec_fail, is_pass}

-- whether a result tells of a leak that passes, of one that fails, of a time-out that passes, of one that fails, or of
-- a child that failed
abbrev pub is_leak_pass : ExecutionResult → Bool
is_leak_pass (Leak leaks.Pass) = true
is_leak_pass _ = false

abbrev pub is_leak_fail : ExecutionResult → Bool
is_leak_fail (Leak leaks.Fail) = true
is_leak_fail _ = false

abbrev pub is_timeout_pass : ExecutionResult → Bool
is_timeout_pass (Timeout timeouts.Pass) = true
is_timeout_pass _ = false

abbrev pub is_timeout_fail : ExecutionResult → Bool
is_timeout_fail (Timeout timeouts.Fail) = true
is_timeout_fail _ = false

abbrev pub is_fail : ExecutionResult → Bool
is_fail (Fail status leaked) = true
is_fail _ = false

-- whether a pass after a failed attempt fails
abbrev pub fails_flaky : FlakyResult → Bool
fails_flaky flakies.Fail = true
fails_flaky flakies.Pass = false

-- of the flaky setting of a test, whether it was tried again, whether it was slow, and its last result: it is a flaky
-- failure; it passed; it failed as one whose child did
abbrev pub is_flaky_failed : FlakyResult → Bool → ExecutionResult → Bool
is_flaky_failed flaky again last = fails_flaky flaky && again && (is_pass last || is_timeout_pass last)

abbrev pub counts_as_passed : FlakyResult → Bool → ExecutionResult → Bool
counts_as_passed flaky again last = (is_pass last || is_timeout_pass last) && not (fails_flaky flaky && again)

abbrev pub counts_as_failed : FlakyResult → Bool → ExecutionResult → Bool
counts_as_failed flaky again last = is_flaky_failed flaky again last || is_leak_fail last || is_fail last

-- how many of some finishes are those of tests, and of scripts, of which something holds
abbrev pub of_test : (FlakyResult → Bool → Bool → ExecutionResult → Bool) → FinishedUnit → Bool
of_test holds (a_test test) =
    holds test.flaky (nat_lt 1 (length test.results)) test.slow (last_or ExecFail test.results)
of_test holds (a_script result) = false

abbrev pub of_script : (ExecutionResult → Bool) → FinishedUnit → Bool
of_script holds (a_test test) = false
of_script holds (a_script result) = holds result

abbrev pub tests_with : (FlakyResult → Bool → Bool → ExecutionResult → Bool) → List FinishedUnit → ℕ
tests_with holds finishes = count_by (of_test holds) finishes

abbrev pub scripts_with : (ExecutionResult → Bool) → List FinishedUnit → ℕ
scripts_with holds finishes = count_by (of_script holds) finishes

-- statistics count the finishes of tests: all; those that passed, those of them that were slow and didn't run out of
-- time, that ran out of time, that were tried again, and that leaked; those that failed, those of them that were slow,
-- and that leaked; those that ran out of time and failed; and those that failed to run. A flaky failure is one that
-- failed. And of scripts: all, those that passed, failed, ran out of time and failed to run
pub record CountsFinishes (s : RunStats) (finishes : List FinishedUnit) : Type 0 where
  pub finished_count : s.finished_count ≡ tests_with (λ flaky again slow last. true) finishes
  pub passed : s.passed ≡ tests_with (λ flaky again slow last. counts_as_passed flaky again last) finishes
  pub passed_slow : s.passed_slow
      ≡ tests_with (λ flaky again slow last. counts_as_passed flaky again last && not
      (is_timeout_pass last) && slow) finishes
  pub passed_timed_out : s.passed_timed_out
      ≡ tests_with (λ flaky again slow last. counts_as_passed flaky again last && is_timeout_pass last) finishes
  pub flaky : s.flaky ≡ tests_with (λ flaky again slow last. counts_as_passed flaky again last && again) finishes
  pub leaky : s.leaky ≡ tests_with
      (λ flaky again slow last. counts_as_passed flaky again last && is_leak_pass last) finishes
  pub failed : s.failed ≡ tests_with (λ flaky again slow last. counts_as_failed flaky again last) finishes
  pub failed_slow : s.failed_slow
      ≡ tests_with (λ flaky again slow last. counts_as_failed flaky again last && slow) finishes
  pub leaky_failed : s.leaky_failed ≡ tests_with (λ flaky again slow last. is_leak_fail last) finishes
  pub failed_timed_out : s.failed_timed_out ≡ tests_with (λ flaky again slow last. is_timeout_fail last) finishes
  pub exec_failed : s.exec_failed ≡ tests_with (λ flaky again slow last. is_exec_fail last) finishes
  pub setup_scripts_finished_count : s.setup_scripts_finished_count ≡ scripts_with (λ result. true) finishes
  pub setup_scripts_passed : s.setup_scripts_passed
      ≡ scripts_with (λ result. is_pass result || is_timeout_pass result) finishes
  pub setup_scripts_failed : s.setup_scripts_failed
      ≡ scripts_with (λ result. is_leak_fail result || is_fail result) finishes
  pub setup_scripts_timed_out : s.setup_scripts_timed_out ≡ scripts_with (λ result. is_timeout_fail result) finishes
  pub setup_scripts_exec_failed : s.setup_scripts_exec_failed ≡ scripts_with (λ result. is_exec_fail result) finishes

-- that holds of the newest sub-run after every legal journal
abbrev pub StatisticsCountFinishes : Type 0
StatisticsCountFinishes = (p : Settings) (journal : List Entry) → IsLegal p journal
    → CountsFinishes (stats p (sub_run (past_of p journal))) (finished (sub_run (past_of p journal)))
