-- What the statistics of a run come to.
use Rattle.std.proofs.Common.{◌≡◌, ℕ, ◌+◌, nat_lt, List, [], ◌∷◌, length, Bool, true, false, ◌&&◌, ◌||◌, not}
use Rattle.std.proofs.Common.{count_by, cond, sum_by}
use Rattle.std.proofs.Common.{refl, ap, sym, ◌∙◌, arith}
use Rattle.std.proofs.lemmas.List.Sums.{sum_by-cons}
use Rattle.run_events.specs.Stats.{last_or, adds_of, script_adds, total_by}
use Rattle.run_events.specs.declared.result.ExecutionResult.{ExecutionResult}
use Rattle.run_events.specs.declared.result.ExecutionResult.TheVariants.{Leak, Fail, ExecFail, Timeout, Pass}
use Rattle.run_events.specs.declared.result.FlakyResult.{FlakyResult}
use Rattle.run_events.specs.declared.settings.Settings.{Settings}
use Rattle.run_events.specs.declared.stats.RunStats.{RunStats}
use Rattle.run_model.specs.Words.{FinishedUnit, a_script, a_test, finished, stats}
use Rattle.run_laws_rows.specs.Results.{is_exec_fail, is_pass}
use Rattle.run_events.specs.declared.result.FlakyResult.TheVariants as flakies
use Rattle.run_events.specs.declared.result.LeakTimeoutResult.TheVariants as leaks
use Rattle.run_events.specs.declared.result.SlowTimeoutResult.TheVariants as timeouts
use Rattle.std.specs.Prelude.{if◌then◌else◌}
use Rattle.run_model.specs.declared.happening.Happening.{Happening}
use Rattle.run_laws_rows.specs.Statistics.{is_leak_pass, is_leak_fail, is_timeout_pass, is_timeout_fail, is_fail}
use Rattle.run_laws_rows.specs.Statistics.{counts_as_passed, counts_as_failed, of_test, of_script, CountsFinishes}
use Rattle.run_model.specs.Words.{adds_by}
use Rattle.run_events.specs.Stats.{one_if, is_flaky_failure, failed_adds, last_adds, test_adds}
use Rattle.run_laws_rows.proofs.StatisticRows.{adds_script, adds_test}

-- a sum of ones is a count
one_is : (b : Bool) → one_if b ≡ cond b 1 0
one_is true = refl
one_is false = refl

sums : (f : FinishedUnit → ℕ) (holds : FinishedUnit → Bool) → ((x : FinishedUnit) → f x ≡ one_if (holds x))
    → (xs : List FinishedUnit) → sum_by f xs ≡ count_by holds xs
sums f holds is [] = refl
sums f holds is (x ∷ xs) =
    sum_by-cons f x xs ∙ ap (λ n. n + sum_by f xs) (is x ∙ one_is (holds x))
    ∙ ap (λ n. cond (holds x) 1 0 + n) (sums f holds is xs) ∙ sym (sum_by-cons (λ x. cond (holds x) 1 0) x xs)

from_none : (n m : ℕ) → n ≡ m → 0 + n ≡ m
from_none n m is = omega (arith, is)

-- what each finish adds to each count
finished_count_is : (x : FinishedUnit) → (adds_by x).finished_count ≡ one_if (of_test (λ flaky again slow last. true) x)
unfolding adds_of
finished_count_is (a_test test) =
    (adds_test test.flaky (nat_lt 1 (length test.results)) test.slow (last_or ExecFail test.results)).0
finished_count_is (a_script result) = none result
  where
    none : (result : ExecutionResult) → (script_adds result).finished_count ≡ 0
    none Pass = refl
    none (Leak leaks.Pass) = refl
    none (Leak leaks.Fail) = refl
    none (Fail status leaked) = refl
    none ExecFail = refl
    none (Timeout timeouts.Pass) = refl
    none (Timeout timeouts.Fail) = refl

passed_is : (x : FinishedUnit) → (adds_by x).passed
    ≡ one_if (of_test (λ flaky again slow last. counts_as_passed flaky again last) x)
unfolding adds_of
passed_is (a_test test) =
    (adds_test test.flaky (nat_lt 1 (length test.results)) test.slow (last_or ExecFail test.results)).1
passed_is (a_script result) = none result
  where
    none : (result : ExecutionResult) → (script_adds result).passed ≡ 0
    none Pass = refl
    none (Leak leaks.Pass) = refl
    none (Leak leaks.Fail) = refl
    none (Fail status leaked) = refl
    none ExecFail = refl
    none (Timeout timeouts.Pass) = refl
    none (Timeout timeouts.Fail) = refl

passed_slow_is : (x : FinishedUnit) → (adds_by x).passed_slow
    ≡ one_if (of_test (λ flaky again slow last. counts_as_passed flaky again last && not
    (is_timeout_pass last) && slow) x)
unfolding adds_of
passed_slow_is (a_test test) =
    (adds_test test.flaky (nat_lt 1 (length test.results)) test.slow (last_or ExecFail test.results)).2
passed_slow_is (a_script result) = none result
  where
    none : (result : ExecutionResult) → (script_adds result).passed_slow ≡ 0
    none Pass = refl
    none (Leak leaks.Pass) = refl
    none (Leak leaks.Fail) = refl
    none (Fail status leaked) = refl
    none ExecFail = refl
    none (Timeout timeouts.Pass) = refl
    none (Timeout timeouts.Fail) = refl

passed_timed_out_is : (x : FinishedUnit) → (adds_by x).passed_timed_out
    ≡ one_if (of_test (λ flaky again slow last. counts_as_passed flaky again last && is_timeout_pass last) x)
unfolding adds_of
passed_timed_out_is (a_test test) =
    (adds_test test.flaky (nat_lt 1 (length test.results)) test.slow (last_or ExecFail test.results)).3
passed_timed_out_is (a_script result) = none result
  where
    none : (result : ExecutionResult) → (script_adds result).passed_timed_out ≡ 0
    none Pass = refl
    none (Leak leaks.Pass) = refl
    none (Leak leaks.Fail) = refl
    none (Fail status leaked) = refl
    none ExecFail = refl
    none (Timeout timeouts.Pass) = refl
    none (Timeout timeouts.Fail) = refl

flaky_is : (x : FinishedUnit) → (adds_by x).flaky
    ≡ one_if (of_test (λ flaky again slow last. counts_as_passed flaky again last && again) x)
unfolding adds_of
flaky_is (a_test test) =
    (adds_test test.flaky (nat_lt 1 (length test.results)) test.slow (last_or ExecFail test.results)).4
flaky_is (a_script result) = none result
  where
    none : (result : ExecutionResult) → (script_adds result).flaky ≡ 0
    none Pass = refl
    none (Leak leaks.Pass) = refl
    none (Leak leaks.Fail) = refl
    none (Fail status leaked) = refl
    none ExecFail = refl
    none (Timeout timeouts.Pass) = refl
    none (Timeout timeouts.Fail) = refl

leaky_is : (x : FinishedUnit) → (adds_by x).leaky
    ≡ one_if (of_test (λ flaky again slow last. counts_as_passed flaky again last && is_leak_pass last) x)
unfolding adds_of
leaky_is (a_test test) =
    (adds_test test.flaky (nat_lt 1 (length test.results)) test.slow (last_or ExecFail test.results)).5
leaky_is (a_script result) = none result
  where
    none : (result : ExecutionResult) → (script_adds result).leaky ≡ 0
    none Pass = refl
    none (Leak leaks.Pass) = refl
    none (Leak leaks.Fail) = refl
    none (Fail status leaked) = refl
    none ExecFail = refl
    none (Timeout timeouts.Pass) = refl
    none (Timeout timeouts.Fail) = refl

failed_is : (x : FinishedUnit) → (adds_by x).failed
    ≡ one_if (of_test (λ flaky again slow last. counts_as_failed flaky again last) x)
unfolding adds_of
failed_is (a_test test) =
    (adds_test test.flaky (nat_lt 1 (length test.results)) test.slow (last_or ExecFail test.results)).6
failed_is (a_script result) = none result
  where
    none : (result : ExecutionResult) → (script_adds result).failed ≡ 0
    none Pass = refl
    none (Leak leaks.Pass) = refl
    none (Leak leaks.Fail) = refl
    none (Fail status leaked) = refl
    none ExecFail = refl
    none (Timeout timeouts.Pass) = refl
    none (Timeout timeouts.Fail) = refl

failed_slow_is : (x : FinishedUnit) → (adds_by x).failed_slow
    ≡ one_if (of_test (λ flaky again slow last. counts_as_failed flaky again last && slow) x)
unfolding adds_of
failed_slow_is (a_test test) =
    (adds_test test.flaky (nat_lt 1 (length test.results)) test.slow (last_or ExecFail test.results)).7
failed_slow_is (a_script result) = none result
  where
    none : (result : ExecutionResult) → (script_adds result).failed_slow ≡ 0
    none Pass = refl
    none (Leak leaks.Pass) = refl
    none (Leak leaks.Fail) = refl
    none (Fail status leaked) = refl
    none ExecFail = refl
    none (Timeout timeouts.Pass) = refl
    none (Timeout timeouts.Fail) = refl

leaky_failed_is : (x : FinishedUnit) → (adds_by x).leaky_failed
    ≡ one_if (of_test (λ flaky again slow last. is_leak_fail last) x)
unfolding adds_of
leaky_failed_is (a_test test) =
    (adds_test test.flaky (nat_lt 1 (length test.results)) test.slow (last_or ExecFail test.results)).8
leaky_failed_is (a_script result) = none result
  where
    none : (result : ExecutionResult) → (script_adds result).leaky_failed ≡ 0
    none Pass = refl
    none (Leak leaks.Pass) = refl
    none (Leak leaks.Fail) = refl
    none (Fail status leaked) = refl
    none ExecFail = refl
    none (Timeout timeouts.Pass) = refl
    none (Timeout timeouts.Fail) = refl

failed_timed_out_is : (x : FinishedUnit) → (adds_by x).failed_timed_out
    ≡ one_if (of_test (λ flaky again slow last. is_timeout_fail last) x)
unfolding adds_of
failed_timed_out_is (a_test test) =
    (adds_test test.flaky (nat_lt 1 (length test.results)) test.slow (last_or ExecFail test.results)).9
failed_timed_out_is (a_script result) = none result
  where
    none : (result : ExecutionResult) → (script_adds result).failed_timed_out ≡ 0
    none Pass = refl
    none (Leak leaks.Pass) = refl
    none (Leak leaks.Fail) = refl
    none (Fail status leaked) = refl
    none ExecFail = refl
    none (Timeout timeouts.Pass) = refl
    none (Timeout timeouts.Fail) = refl

exec_failed_is : (x : FinishedUnit) → (adds_by x).exec_failed
    ≡ one_if (of_test (λ flaky again slow last. is_exec_fail last) x)
unfolding adds_of
exec_failed_is (a_test test) =
    (adds_test test.flaky (nat_lt 1 (length test.results)) test.slow (last_or ExecFail test.results)).10
exec_failed_is (a_script result) = none result
  where
    none : (result : ExecutionResult) → (script_adds result).exec_failed ≡ 0
    none Pass = refl
    none (Leak leaks.Pass) = refl
    none (Leak leaks.Fail) = refl
    none (Fail status leaked) = refl
    none ExecFail = refl
    none (Timeout timeouts.Pass) = refl
    none (Timeout timeouts.Fail) = refl

setup_scripts_finished_count_is : (x : FinishedUnit) → (adds_by x).setup_scripts_finished_count
    ≡ one_if (of_script (λ result. true) x)
unfolding adds_of
setup_scripts_finished_count_is (a_script result) = (adds_script result).0
setup_scripts_finished_count_is (a_test test) =
    none test.flaky (nat_lt 1 (length test.results)) test.slow (last_or ExecFail test.results)
  where
    by_last : (again slow : Bool) (last : ExecutionResult)
        → (last_adds again slow last).setup_scripts_finished_count ≡ 0
    by_last again slow Pass = refl
    by_last again slow (Leak leaks.Pass) = refl
    by_last again slow (Leak leaks.Fail) = refl
    by_last again slow (Fail status leaked) = refl
    by_last again slow ExecFail = refl
    by_last again slow (Timeout timeouts.Pass) = refl
    by_last again slow (Timeout timeouts.Fail) = refl

    none : (flaky : FlakyResult) (again slow : Bool) (last : ExecutionResult)
        → (test_adds flaky again slow last).setup_scripts_finished_count ≡ 0
    none flaky again slow last = by_flaky (is_flaky_failure flaky again last)
      where
        by_flaky : (b : Bool)
            → (if b then failed_adds slow else last_adds again slow last).setup_scripts_finished_count ≡ 0
        by_flaky true = refl
        by_flaky false = by_last again slow last

setup_scripts_passed_is : (x : FinishedUnit) → (adds_by x).setup_scripts_passed
    ≡ one_if (of_script (λ result. is_pass result || is_timeout_pass result) x)
unfolding adds_of
setup_scripts_passed_is (a_script result) = (adds_script result).1
setup_scripts_passed_is (a_test test) =
    none test.flaky (nat_lt 1 (length test.results)) test.slow (last_or ExecFail test.results)
  where
    by_last : (again slow : Bool) (last : ExecutionResult) → (last_adds again slow last).setup_scripts_passed ≡ 0
    by_last again slow Pass = refl
    by_last again slow (Leak leaks.Pass) = refl
    by_last again slow (Leak leaks.Fail) = refl
    by_last again slow (Fail status leaked) = refl
    by_last again slow ExecFail = refl
    by_last again slow (Timeout timeouts.Pass) = refl
    by_last again slow (Timeout timeouts.Fail) = refl

    none : (flaky : FlakyResult) (again slow : Bool) (last : ExecutionResult)
        → (test_adds flaky again slow last).setup_scripts_passed ≡ 0
    none flaky again slow last = by_flaky (is_flaky_failure flaky again last)
      where
        by_flaky : (b : Bool) → (if b then failed_adds slow else last_adds again slow last).setup_scripts_passed ≡ 0
        by_flaky true = refl
        by_flaky false = by_last again slow last

setup_scripts_failed_is : (x : FinishedUnit) → (adds_by x).setup_scripts_failed
    ≡ one_if (of_script (λ result. is_leak_fail result || is_fail result) x)
unfolding adds_of
setup_scripts_failed_is (a_script result) = (adds_script result).2
setup_scripts_failed_is (a_test test) =
    none test.flaky (nat_lt 1 (length test.results)) test.slow (last_or ExecFail test.results)
  where
    by_last : (again slow : Bool) (last : ExecutionResult) → (last_adds again slow last).setup_scripts_failed ≡ 0
    by_last again slow Pass = refl
    by_last again slow (Leak leaks.Pass) = refl
    by_last again slow (Leak leaks.Fail) = refl
    by_last again slow (Fail status leaked) = refl
    by_last again slow ExecFail = refl
    by_last again slow (Timeout timeouts.Pass) = refl
    by_last again slow (Timeout timeouts.Fail) = refl

    none : (flaky : FlakyResult) (again slow : Bool) (last : ExecutionResult)
        → (test_adds flaky again slow last).setup_scripts_failed ≡ 0
    none flaky again slow last = by_flaky (is_flaky_failure flaky again last)
      where
        by_flaky : (b : Bool) → (if b then failed_adds slow else last_adds again slow last).setup_scripts_failed ≡ 0
        by_flaky true = refl
        by_flaky false = by_last again slow last

setup_scripts_timed_out_is : (x : FinishedUnit) → (adds_by x).setup_scripts_timed_out
    ≡ one_if (of_script (λ result. is_timeout_fail result) x)
unfolding adds_of
setup_scripts_timed_out_is (a_script result) = (adds_script result).3
setup_scripts_timed_out_is (a_test test) =
    none test.flaky (nat_lt 1 (length test.results)) test.slow (last_or ExecFail test.results)
  where
    by_last : (again slow : Bool) (last : ExecutionResult) → (last_adds again slow last).setup_scripts_timed_out ≡ 0
    by_last again slow Pass = refl
    by_last again slow (Leak leaks.Pass) = refl
    by_last again slow (Leak leaks.Fail) = refl
    by_last again slow (Fail status leaked) = refl
    by_last again slow ExecFail = refl
    by_last again slow (Timeout timeouts.Pass) = refl
    by_last again slow (Timeout timeouts.Fail) = refl

    none : (flaky : FlakyResult) (again slow : Bool) (last : ExecutionResult)
        → (test_adds flaky again slow last).setup_scripts_timed_out ≡ 0
    none flaky again slow last = by_flaky (is_flaky_failure flaky again last)
      where
        by_flaky : (b : Bool) → (if b then failed_adds slow else last_adds again slow last).setup_scripts_timed_out ≡ 0
        by_flaky true = refl
        by_flaky false = by_last again slow last

setup_scripts_exec_failed_is : (x : FinishedUnit) → (adds_by x).setup_scripts_exec_failed
    ≡ one_if (of_script (λ result. is_exec_fail result) x)
unfolding adds_of
setup_scripts_exec_failed_is (a_script result) = (adds_script result).4
setup_scripts_exec_failed_is (a_test test) =
    none test.flaky (nat_lt 1 (length test.results)) test.slow (last_or ExecFail test.results)
  where
    by_last : (again slow : Bool) (last : ExecutionResult) → (last_adds again slow last).setup_scripts_exec_failed ≡ 0
    by_last again slow Pass = refl
    by_last again slow (Leak leaks.Pass) = refl
    by_last again slow (Leak leaks.Fail) = refl
    by_last again slow (Fail status leaked) = refl
    by_last again slow ExecFail = refl
    by_last again slow (Timeout timeouts.Pass) = refl
    by_last again slow (Timeout timeouts.Fail) = refl

    none : (flaky : FlakyResult) (again slow : Bool) (last : ExecutionResult)
        → (test_adds flaky again slow last).setup_scripts_exec_failed ≡ 0
    none flaky again slow last = by_flaky (is_flaky_failure flaky again last)
      where
        by_flaky : (b : Bool)
            → (if b then failed_adds slow else last_adds again slow last).setup_scripts_exec_failed ≡ 0
        by_flaky true = refl
        by_flaky false = by_last again slow last

pub counts_finishes : (p : Settings) (run : List Happening) → CountsFinishes (stats p run) (finished run)
unfolding total_by
counts_finishes p run = record {
  finished_count = from_none _ _ (sums (λ x. (adds_by x).finished_count)
      (of_test (λ flaky again slow last. true)) finished_count_is (finished run));
  passed = from_none _ _ (sums (λ x. (adds_by x).passed)
      (of_test (λ flaky again slow last. counts_as_passed flaky again last)) passed_is (finished run));
  passed_slow = from_none _ _ (sums (λ x. (adds_by x).passed_slow)
      (of_test (λ flaky again slow last. counts_as_passed flaky again last
      && not (is_timeout_pass last) && slow)) passed_slow_is (finished run));
  passed_timed_out = from_none _ _ (sums (λ x. (adds_by x).passed_timed_out)
      (of_test (λ flaky again slow last. counts_as_passed flaky again last
      && is_timeout_pass last)) passed_timed_out_is (finished run));
  flaky = from_none _ _ (sums (λ x. (adds_by x).flaky)
      (of_test (λ flaky again slow last. counts_as_passed flaky again last && again)) flaky_is (finished run));
  leaky = from_none _ _ (sums (λ x. (adds_by x).leaky)
      (of_test (λ flaky again slow last. counts_as_passed flaky again last && is_leak_pass last)) leaky_is
      (finished run));
  failed = from_none _ _ (sums (λ x. (adds_by x).failed)
      (of_test (λ flaky again slow last. counts_as_failed flaky again last)) failed_is (finished run));
  failed_slow = from_none _ _ (sums (λ x. (adds_by x).failed_slow)
      (of_test (λ flaky again slow last. counts_as_failed flaky again last && slow)) failed_slow_is (finished run));
  leaky_failed = from_none _ _ (sums (λ x. (adds_by x).leaky_failed)
      (of_test (λ flaky again slow last. is_leak_fail last)) leaky_failed_is (finished run));
  failed_timed_out = from_none _ _ (sums (λ x. (adds_by x).failed_timed_out)
      (of_test (λ flaky again slow last. is_timeout_fail last)) failed_timed_out_is (finished run));
  exec_failed = from_none _ _ (sums (λ x. (adds_by x).exec_failed)
      (of_test (λ flaky again slow last. is_exec_fail last)) exec_failed_is (finished run));
  setup_scripts_finished_count = from_none _ _ (sums (λ x. (adds_by x).setup_scripts_finished_count)
      (of_script (λ result. true)) setup_scripts_finished_count_is (finished run));
  setup_scripts_passed = from_none _ _ (sums (λ x. (adds_by x).setup_scripts_passed)
      (of_script (λ result. is_pass result || is_timeout_pass result)) setup_scripts_passed_is (finished run));
  setup_scripts_failed = from_none _ _ (sums (λ x. (adds_by x).setup_scripts_failed)
      (of_script (λ result. is_leak_fail result || is_fail result)) setup_scripts_failed_is (finished run));
  setup_scripts_timed_out = from_none _ _ (sums (λ x. (adds_by x).setup_scripts_timed_out)
      (of_script (λ result. is_timeout_fail result)) setup_scripts_timed_out_is (finished run));
  setup_scripts_exec_failed = from_none _ _ (sums (λ x. (adds_by x).setup_scripts_exec_failed)
      (of_script (λ result. is_exec_fail result)) setup_scripts_exec_failed_is (finished run));
}
