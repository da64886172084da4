-- What each finish adds to the statistics, row by row.
use Rattle.std.proofs.Common.{◌≡◌, ℕ, ◌+◌, nat_lt, List, [], ◌∷◌, length, Bool, true, false, ◌&&◌, ◌||◌, not}
use Rattle.std.proofs.Common.{count_by, cond, sum_by}
use Rattle.std.proofs.Common.{refl, ap, sym, ◌∙◌, arith}
use Rattle.std.proofs.lemmas.List.Sums.{sum_by-cons}
use Rattle.run_events.specs.Stats.{last_or, adds_of, script_adds, total_by}
use Rattle.run_events.specs.declared.result.ExecutionResult.{ExecutionResult}
use Rattle.run_events.specs.declared.result.ExecutionResult.TheVariants.{Leak, Fail, ExecFail, Timeout, Pass}
use Rattle.run_events.specs.declared.result.FlakyResult.{FlakyResult}
use Rattle.run_events.specs.declared.settings.Settings.{Settings}
use Rattle.run_events.specs.declared.stats.RunStats.{RunStats}
use Rattle.run_model.specs.Words.{FinishedUnit, a_script, a_test, finished, stats}
use Rattle.run_laws_rows.specs.Results.{is_exec_fail, is_pass}
use Rattle.run_events.specs.declared.result.FlakyResult.TheVariants as flakies
use Rattle.run_events.specs.declared.result.LeakTimeoutResult.TheVariants as leaks
use Rattle.run_events.specs.declared.result.SlowTimeoutResult.TheVariants as timeouts
use Rattle.std.specs.Prelude.{if◌then◌else◌}
use Rattle.run_model.specs.declared.happening.Happening.{Happening}
use Rattle.run_laws_rows.specs.Statistics.{is_leak_pass, is_leak_fail, is_timeout_pass, is_timeout_fail, is_fail}
use Rattle.run_laws_rows.specs.Statistics.{counts_as_passed, counts_as_failed, of_test, of_script, CountsFinishes}
use Rattle.run_model.specs.Words.{adds_by}
use Rattle.run_events.specs.Stats.{one_if, is_flaky_failure, failed_adds, last_adds, test_adds}

-- what a finished test adds, by its flaky setting, whether it was tried again, whether it was slow, and its last result
abbrev pub AddsSo : FlakyResult → Bool → Bool → ExecutionResult → RunStats → Type 0
AddsSo flaky again slow last s =
    (s.finished_count ≡ one_if (true))
    × (s.passed ≡ one_if (counts_as_passed flaky again last))
    × (s.passed_slow ≡ one_if (counts_as_passed flaky again last && not (is_timeout_pass last) && slow))
    × (s.passed_timed_out ≡ one_if (counts_as_passed flaky again last && is_timeout_pass last))
    × (s.flaky ≡ one_if (counts_as_passed flaky again last && again))
    × (s.leaky ≡ one_if (counts_as_passed flaky again last && is_leak_pass last))
    × (s.failed ≡ one_if (counts_as_failed flaky again last))
    × (s.failed_slow ≡ one_if (counts_as_failed flaky again last && slow))
    × (s.leaky_failed ≡ one_if (is_leak_fail last))
    × (s.failed_timed_out ≡ one_if (is_timeout_fail last))
    × (s.exec_failed ≡ one_if (is_exec_fail last))

pub adds_test : (flaky : FlakyResult) (again slow : Bool) (last : ExecutionResult)
    → AddsSo flaky again slow last (test_adds flaky again slow last)
adds_test flakies.Pass again slow Pass = (refl, refl, refl, refl, refl, refl, refl, refl, refl, refl, refl)
adds_test flakies.Pass again slow (Leak leaks.Pass) = (refl, refl, refl, refl, refl, refl, refl, refl, refl, refl, refl)
adds_test flakies.Pass again slow (Leak leaks.Fail) = (refl, refl, refl, refl, refl, refl, refl, refl, refl, refl, refl)
adds_test flakies.Pass again slow (Fail status leaked) =
    (refl, refl, refl, refl, refl, refl, refl, refl, refl, refl, refl)
adds_test flakies.Pass again slow ExecFail = (refl, refl, refl, refl, refl, refl, refl, refl, refl, refl, refl)
adds_test flakies.Pass again slow (Timeout timeouts.Pass) =
    (refl, refl, refl, refl, refl, refl, refl, refl, refl, refl, refl)
adds_test flakies.Pass again slow (Timeout timeouts.Fail) =
    (refl, refl, refl, refl, refl, refl, refl, refl, refl, refl, refl)
adds_test flakies.Fail true slow Pass = (refl, refl, refl, refl, refl, refl, refl, refl, refl, refl, refl)
adds_test flakies.Fail true slow (Leak leaks.Pass) = (refl, refl, refl, refl, refl, refl, refl, refl, refl, refl, refl)
adds_test flakies.Fail true slow (Leak leaks.Fail) = (refl, refl, refl, refl, refl, refl, refl, refl, refl, refl, refl)
adds_test flakies.Fail true slow (Fail status leaked) =
    (refl, refl, refl, refl, refl, refl, refl, refl, refl, refl, refl)
adds_test flakies.Fail true slow ExecFail = (refl, refl, refl, refl, refl, refl, refl, refl, refl, refl, refl)
adds_test flakies.Fail true slow (Timeout timeouts.Pass) =
    (refl, refl, refl, refl, refl, refl, refl, refl, refl, refl, refl)
adds_test flakies.Fail true slow (Timeout timeouts.Fail) =
    (refl, refl, refl, refl, refl, refl, refl, refl, refl, refl, refl)
adds_test flakies.Fail false slow Pass = (refl, refl, refl, refl, refl, refl, refl, refl, refl, refl, refl)
adds_test flakies.Fail false slow (Leak leaks.Pass) = (refl, refl, refl, refl, refl, refl, refl, refl, refl, refl, refl)
adds_test flakies.Fail false slow (Leak leaks.Fail) = (refl, refl, refl, refl, refl, refl, refl, refl, refl, refl, refl)
adds_test flakies.Fail false slow (Fail status leaked) =
    (refl, refl, refl, refl, refl, refl, refl, refl, refl, refl, refl)
adds_test flakies.Fail false slow ExecFail = (refl, refl, refl, refl, refl, refl, refl, refl, refl, refl, refl)
adds_test flakies.Fail false slow (Timeout timeouts.Pass) =
    (refl, refl, refl, refl, refl, refl, refl, refl, refl, refl, refl)
adds_test flakies.Fail false slow (Timeout timeouts.Fail) =
    (refl, refl, refl, refl, refl, refl, refl, refl, refl, refl, refl)

-- and a finished script
abbrev pub AddsOf : ExecutionResult → RunStats → Type 0
AddsOf result s =
    (s.setup_scripts_finished_count ≡ one_if (true))
    × (s.setup_scripts_passed ≡ one_if (is_pass result || is_timeout_pass result))
    × (s.setup_scripts_failed ≡ one_if (is_leak_fail result || is_fail result))
    × (s.setup_scripts_timed_out ≡ one_if (is_timeout_fail result))
    × (s.setup_scripts_exec_failed ≡ one_if (is_exec_fail result))

pub adds_script : (result : ExecutionResult) → AddsOf result (script_adds result)
adds_script Pass = (refl, refl, refl, refl, refl)
adds_script (Leak leaks.Pass) = (refl, refl, refl, refl, refl)
adds_script (Leak leaks.Fail) = (refl, refl, refl, refl, refl)
adds_script (Fail status leaked) = (refl, refl, refl, refl, refl)
adds_script ExecFail = (refl, refl, refl, refl, refl)
adds_script (Timeout timeouts.Pass) = (refl, refl, refl, refl, refl)
adds_script (Timeout timeouts.Fail) = (refl, refl, refl, refl, refl)
