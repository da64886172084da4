-- Sums of statistics.
use Rattle.std.proofs.Common.{◌≡◌, ◌≤◌, ◌<◌, ◌+◌, ℕ, List, [], ◌∷◌, ◌++◌, length, ap, refl, arith, sym, ◌∙◌, true}
use Rattle.std.proofs.Common.{false, Bool, add_assoc, rules, zero, suc, ◌-◌, slice_get, Some}
use Rattle.std.specs.List.{sum_by}
use Rattle.std.proofs.lemmas.List.Sums.{sum_by_push, sum_by-cons}
use Rattle.run_events.specs.declared.stats.RunStats.{RunStats}
use Rattle.run_events.specs.declared.result.ExecutionResult.{ExecutionResult}
use Rattle.run_events.specs.declared.result.FlakyResult.{FlakyResult}
use Rattle.run_events.specs.Stats.{FinishedTest, AreBelow, plus, total_by, total, script_total, adds_of, script_adds}
use Rattle.run_events.specs.Stats.{one_if, test_adds, last_or}

-- one more item adds its number on top of what the start and the items before add
pub sum_push : {X : Type 0} (f : X → ℕ) → (n : ℕ) (xs : List X) (x : X)
    → n + sum_by f (xs ++ x ∷ []) ≡ (n + sum_by f xs) + f x
sum_push f n xs x = ap (λ s. n + s) (sum_by_push f xs x) ∙ sym (add_assoc n (sum_by f xs) (f x))

-- a sum of numbers of at most 1 is at most the length
pub sum_below : {X : Type 0} (f : X → ℕ) → ((x : X) → f x < 2) → (n k limit : ℕ) (xs : List X)
    → n < k → k + length xs ≤ limit → n + sum_by f xs < limit
sum_below f small n k limit [] below room = omega arith
sum_below f small n k limit (x ∷ xs) below room =
    let here = small x in let cons = sum_by-cons f x xs in let rest =
    sum_below f small (n + f x) (k + 1) limit xs (omega arith) (omega arith) in omega arith

-- one more finish adds what it adds
pub total_by_push : {X : Type 0} (adds : X → RunStats) → (start : RunStats) (xs : List X) (x : X)
    → total_by adds start (xs ++ x ∷ []) ≡ plus (total_by adds start xs) (adds x)
unfolding total_by plus
total_by_push adds start xs x = simp sum_push refl

-- sums of what adds at most 1 stay within the start and their number
pub total_by_below : {X : Type 0} (adds : X → RunStats) → ((x : X) → AreBelow 2 (adds x))
    → (limit most : ℕ) (start : RunStats) (xs : List X) → AreBelow most start → most + length xs ≤ limit
    → AreBelow limit (total_by adds start xs)
unfolding total_by
total_by_below adds small limit most start xs below room = record {
  initial_run_count = sum_below (λ x. (adds x).initial_run_count) (λ x. (small x).initial_run_count)
      start.initial_run_count most limit xs below.initial_run_count room;
  finished_count = sum_below (λ x. (adds x).finished_count) (λ x. (small x).finished_count) start.finished_count most
      limit xs below.finished_count room;
  setup_scripts_initial_count =
      sum_below (λ x. (adds x).setup_scripts_initial_count) (λ x. (small x).setup_scripts_initial_count)
      start.setup_scripts_initial_count most limit xs below.setup_scripts_initial_count room;
  setup_scripts_finished_count =
      sum_below (λ x. (adds x).setup_scripts_finished_count) (λ x. (small x).setup_scripts_finished_count)
      start.setup_scripts_finished_count most limit xs below.setup_scripts_finished_count room;
  setup_scripts_passed =
      sum_below (λ x. (adds x).setup_scripts_passed) (λ x. (small x).setup_scripts_passed) start.setup_scripts_passed
      most limit xs below.setup_scripts_passed room;
  setup_scripts_failed =
      sum_below (λ x. (adds x).setup_scripts_failed) (λ x. (small x).setup_scripts_failed) start.setup_scripts_failed
      most limit xs below.setup_scripts_failed room;
  setup_scripts_exec_failed =
      sum_below (λ x. (adds x).setup_scripts_exec_failed) (λ x. (small x).setup_scripts_exec_failed)
      start.setup_scripts_exec_failed most limit xs below.setup_scripts_exec_failed room;
  setup_scripts_timed_out =
      sum_below (λ x. (adds x).setup_scripts_timed_out) (λ x. (small x).setup_scripts_timed_out)
      start.setup_scripts_timed_out most limit xs below.setup_scripts_timed_out room;
  passed = sum_below (λ x. (adds x).passed) (λ x. (small x).passed) start.passed most limit xs below.passed room;
  passed_slow = sum_below (λ x. (adds x).passed_slow) (λ x. (small x).passed_slow) start.passed_slow most limit xs
      below.passed_slow room;
  passed_timed_out = sum_below (λ x. (adds x).passed_timed_out) (λ x. (small x).passed_timed_out)
      start.passed_timed_out most limit xs below.passed_timed_out room;
  flaky = sum_below (λ x. (adds x).flaky) (λ x. (small x).flaky) start.flaky most limit xs below.flaky room;
  failed = sum_below (λ x. (adds x).failed) (λ x. (small x).failed) start.failed most limit xs below.failed room;
  failed_slow = sum_below (λ x. (adds x).failed_slow) (λ x. (small x).failed_slow) start.failed_slow most limit xs
      below.failed_slow room;
  failed_timed_out = sum_below (λ x. (adds x).failed_timed_out) (λ x. (small x).failed_timed_out)
      start.failed_timed_out most limit xs below.failed_timed_out room;
  leaky = sum_below (λ x. (adds x).leaky) (λ x. (small x).leaky) start.leaky most limit xs below.leaky room;
  leaky_failed = sum_below (λ x. (adds x).leaky_failed) (λ x. (small x).leaky_failed) start.leaky_failed most limit xs
      below.leaky_failed room;
  exec_failed = sum_below (λ x. (adds x).exec_failed) (λ x. (small x).exec_failed) start.exec_failed most limit xs
      below.exec_failed room;
  skipped = sum_below (λ x. (adds x).skipped) (λ x. (small x).skipped) start.skipped most limit xs below.skipped room;
}

-- a test answers 0 or 1
pub one_if_small : (b : Bool) → one_if b < 2
one_if_small true = omega arith
one_if_small false = omega arith

-- a test adds at most 1 to each count
pub test_adds_small : (flaky : FlakyResult) (retried slow : Bool) (last : ExecutionResult)
    → AreBelow 2 (test_adds flaky retried slow last)
test_adds_small flaky retried slow last = search (rules, one_if_small)

-- a finished test adds at most 1 to each count
pub adds_of_small : (test : FinishedTest) → AreBelow 2 (adds_of test)
unfolding adds_of
adds_of_small test = test_adds_small test.flaky _ test.slow _

-- a setup script adds at most 1 to each count
pub script_adds_small : (result : ExecutionResult) → AreBelow 2 (script_adds result)
script_adds_small result = search rules

-- one more finished test adds what it adds
pub total_push : (start : RunStats) (tests : List FinishedTest) (test : FinishedTest)
    → total start (tests ++ test ∷ []) ≡ plus (total start tests) (adds_of test)
total_push start tests test = total_by_push adds_of start tests test

-- the counts after so many finished tests
pub total_below : (limit most : ℕ) (start : RunStats) (tests : List FinishedTest)
    → AreBelow most start → most + length tests ≤ limit → AreBelow limit (total start tests)
total_below limit most start tests below room = total_by_below adds_of adds_of_small limit most start tests below room

-- one more finished setup script adds what it adds
pub script_total_push : (start : RunStats) (results : List ExecutionResult) (result : ExecutionResult)
    → script_total start (results ++ result ∷ []) ≡ plus (script_total start results) (script_adds result)
script_total_push start results result = total_by_push script_adds start results result

-- the counts after so many finished setup scripts
pub script_total_below : (limit most : ℕ) (start : RunStats) (results : List ExecutionResult)
    → AreBelow most start → most + length results ≤ limit → AreBelow limit (script_total start results)
script_total_below limit most start results below room =
    total_by_below script_adds script_adds_small limit most start results below room

-- what stands at the last place of a list
last_or_at : {X : Type 0} (other x y : X) (xs : List X) (n : ℕ)
    → n + 1 ≡ length (x ∷ xs) → slice_get (x ∷ xs) n ≡ Some y → y ≡ last_or other (x ∷ xs)
last_or_at other x y [] zero place read = cc
last_or_at other x y [] (suc n) place read = absurd (omega arith)
last_or_at other x y (z ∷ xs) zero place read = absurd (omega arith)
last_or_at other x y (z ∷ xs) (suc n) place read = last_or_at x z y xs n (omega arith) read

-- what is read at the last place of a list is its last
pub last_or_read : {X : Type 0} (other : X) (xs : List X) (y : X)
    → slice_get xs (length xs - 1) ≡ Some y → y ≡ last_or other xs
last_or_read other [] y read = cc
last_or_read other (x ∷ xs) y read = last_or_at other x y xs (length (x ∷ xs) - 1) (omega arith) read

-- finished tests leave the cancel reason as it was
pub total-cancel_reason : (start : RunStats) (tests : List FinishedTest)
    → (total start tests).cancel_reason ≡ start.cancel_reason
unfolding total_by
total-cancel_reason start tests = refl
