-- The finishes that the statistics count as failed.
use Rattle.std.proofs.Common.{◌≡◌, ℕ, suc, ◌+◌, ◌-◌, Bool, true, false, not, if◌then◌else◌, cond, nat_lt, List}
use Rattle.std.proofs.Common.{[], ◌∷◌, length, map, slice_get, Option, Some, None, refl, sym, ap, ◌∙◌, arith}
use Rattle.std.proofs.lemmas.List.{length-map}
use Rattle.std.proofs.lemmas.List.Sums.{sum_by-cons}
use Rattle.std.specs.List.{count_by}
use Rattle.run_events.specs.declared.message.TestFinish.{TestFinish}
use Rattle.run_events.specs.declared.message.TestUnit.{TestUnit}
use Rattle.run_events.specs.declared.result.ExecuteStatus.{ExecuteStatus}
use Rattle.run_events.specs.declared.result.ExecutionResult.{ExecutionResult}
use Rattle.run_events.specs.declared.result.ExecutionResult.TheVariants as results
use Rattle.run_events.specs.declared.result.FlakyResult.{FlakyResult}
use Rattle.run_events.specs.declared.result.FlakyResult.TheVariants as flakies
use Rattle.run_events.specs.declared.result.LeakTimeoutResult.TheVariants as leaks
use Rattle.run_events.specs.declared.result.SlowTimeoutResult.TheVariants as timeouts
use Rattle.run_events.specs.Result.{is_success}
use Rattle.run_events.specs.Stats.{adds_of, is_flaky_failure, last_or, one_if, script_adds, test_adds}
use Rattle.run_report.specs.Finish.{last_attempt}
use Rattle.run_junit.specs.declared.case.Ended.{Ended}
use Rattle.run_junit.specs.declared.case.Ended.TheVariants as ends
use Rattle.run_junit.specs.declared.reason.Fault.{Fault}
use Rattle.run_junit.specs.declared.reason.Fault.TheVariants as faults
use Rattle.run_junit.specs.Cases.{ended_test, result_of_last, main_by}
use Rattle.run_junit.specs.Laws.{FaultsAreCounted, failed_by, failed_scripts, failed_tests, is_counted_fault}
use Rattle.run_junit.specs.Reasons.{fault_by_result}
use Rattle.run_junit.specs.Suites.{Finish, counts_of, fault_by, fault_counted, counts_as_error, counts_as_failure}
use Rattle.run_junit.specs.Suites.{script, test}
use Rattle.run_junit.specs.Suites.{test_fault}

fault_one : (o : Option Fault)
    → cond (counts_as_failure o) 1 0 + cond (counts_as_error o) 1 0 ≡ cond (is_counted_fault o) 1 0
fault_one None = refl
fault_one (Some faults.Failure) = refl
fault_one (Some faults.Error) = refl

all_faults : (xs : List Finish)
    → (counts_of xs).failures + (counts_of xs).errors ≡ count_by (λ x. is_counted_fault (fault_counted x)) xs
all_faults [] = refl
all_faults (x ∷ xs) =
    let failures = sum_by-cons (λ (y : Finish). cond (counts_as_failure (fault_counted y)) 1 0) x xs in
    let errors = sum_by-cons (λ (y : Finish). cond (counts_as_error (fault_counted y)) 1 0) x xs in
    let all = sum_by-cons (λ (y : Finish). cond (is_counted_fault (fault_counted y)) 1 0) x xs in
    let here = fault_one (fault_counted x) in
    let rest = all_faults xs in
    omega (arith, failures, errors, all, here, rest)

-- whether a test failed that ended so
abbrev is_failed : Ended → Bool
is_failed ends.Passed = false
is_failed ends.FlakyFailed = true
is_failed ends.Failed = true

abbrev ended_so : FlakyResult → Bool → ExecutionResult → Ended
ended_so flaky retried last = if not (is_success last) then ends.Failed
    else if is_flaky_failure flaky retried last then ends.FlakyFailed
    else ends.Passed

result_fails : (flaky : FlakyResult) (retried slow : Bool) (r : ExecutionResult)
    → one_if (is_failed (ended_so flaky retried r)) ≡ failed_tests (test_adds flaky retried slow r)
result_fails flakies.Fail true slow results.Pass = refl
result_fails flakies.Fail true slow (results.Leak leaks.Pass) = refl
result_fails flakies.Fail true slow (results.Leak leaks.Fail) = refl
result_fails flakies.Fail true slow (results.Fail status leaked) = refl
result_fails flakies.Fail true slow results.ExecFail = refl
result_fails flakies.Fail true slow (results.Timeout timeouts.Pass) = refl
result_fails flakies.Fail true slow (results.Timeout timeouts.Fail) = refl
result_fails flakies.Fail false slow results.Pass = refl
result_fails flakies.Fail false slow (results.Leak leaks.Pass) = refl
result_fails flakies.Fail false slow (results.Leak leaks.Fail) = refl
result_fails flakies.Fail false slow (results.Fail status leaked) = refl
result_fails flakies.Fail false slow results.ExecFail = refl
result_fails flakies.Fail false slow (results.Timeout timeouts.Pass) = refl
result_fails flakies.Fail false slow (results.Timeout timeouts.Fail) = refl
result_fails flakies.Pass retried slow results.Pass = refl
result_fails flakies.Pass retried slow (results.Leak leaks.Pass) = refl
result_fails flakies.Pass retried slow (results.Leak leaks.Fail) = refl
result_fails flakies.Pass retried slow (results.Fail status leaked) = refl
result_fails flakies.Pass retried slow results.ExecFail = refl
result_fails flakies.Pass retried slow (results.Timeout timeouts.Pass) = refl
result_fails flakies.Pass retried slow (results.Timeout timeouts.Fail) = refl

-- of a test with attempts
main_fault : (ended : Ended) (f : TestFinish) (first last : ExecuteStatus) → slice_get f.statuses 0 ≡ Some first
    → last_attempt f ≡ Some last → is_counted_fault (fault_by ended (main_by ended f)) ≡ is_failed ended
main_fault ends.Passed f first last begins is = ap (λ o. is_counted_fault (fault_by ends.Passed o)) is
main_fault ends.FlakyFailed f first last begins is = ap (λ o. is_counted_fault (fault_by ends.FlakyFailed o)) is
main_fault ends.Failed f first last begins is = ap (λ o. is_counted_fault (fault_by ends.Failed o)) begins

last_is : (s : ExecuteStatus) (ss : List ExecuteStatus)
    → slice_get (s ∷ ss) (length (s ∷ ss) - 1) ≡ Some (last_or s ss)
last_is s [] = refl
last_is s (t ∷ ts) =
    let next : length (s ∷ t ∷ ts) - 1 ≡ suc (length (t ∷ ts) - 1) = omega arith in
    ap (slice_get (s ∷ t ∷ ts)) next ∙ last_is t ts

last_result_is : (s : ExecuteStatus) (ss : List ExecuteStatus)
    → last_or s.result (map (λ (t : ExecuteStatus). t.result) ss) ≡ (last_or s ss).result
last_result_is s [] = refl
last_result_is s (t ∷ ts) = last_result_is t ts

each_test : (slow : Bool) (unit : TestUnit) (flaky : FlakyResult) (xs : List ExecuteStatus)
    → one_if (is_counted_fault (test_fault (record { test = unit; statuses = xs; flaky = flaky })))
    ≡ failed_by slow (test (record { test = unit; statuses = xs; flaky = flaky }))
unfolding adds_of
each_test slow unit flakies.Fail [] = refl
each_test slow unit flakies.Pass [] = refl
each_test slow unit flaky (s ∷ ss) =
    let f : TestFinish = record { test = unit; statuses = s ∷ ss; flaky = flaky } in
    let last = last_or s ss in
    let is = last_is s ss in
    let retried = nat_lt 1 (length (s ∷ ss)) in
    ap (λ o. one_if (is_counted_fault (fault_by (ended_test f (result_of_last o))
    (main_by (ended_test f (result_of_last o)) f)))) is
    ∙ ap one_if (main_fault (ended_so flaky retried last.result) f s last refl is)
    ∙ result_fails flaky retried slow last.result
    ∙ ap (λ (n : ℕ). failed_tests (test_adds flaky (nat_lt 1 n) slow last.result))
    (sym (length-map (s ∷ ss) (λ (t : ExecuteStatus). t.result)))
    ∙ ap (λ (r : ExecutionResult). failed_tests (test_adds flaky
    (nat_lt 1 (length (map (λ (t : ExecuteStatus). t.result) (s ∷ ss)))) slow r)) (sym (last_result_is s ss))

script_fails : (r : ExecutionResult)
    → one_if (is_counted_fault (if is_success r then None else Some (fault_by_result r)))
    ≡ failed_scripts (script_adds r)
script_fails results.Pass = refl
script_fails (results.Leak leaks.Pass) = refl
script_fails (results.Leak leaks.Fail) = refl
script_fails (results.Fail status leaked) = refl
script_fails results.ExecFail = refl
script_fails (results.Timeout timeouts.Pass) = refl
script_fails (results.Timeout timeouts.Fail) = refl

each_fault : (slow : Bool) (x : Finish) → one_if (is_counted_fault (fault_counted x)) ≡ failed_by slow x
each_fault slow (test f) = each_test slow f.test f.flaky f.statuses
each_fault slow (script f) = script_fails f.status.result

pub faults_are_counted : FaultsAreCounted
faults_are_counted = record { each = each_fault; all = all_faults }
