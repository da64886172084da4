-- When the summary of some statistics is a success.
use Rattle.std.proofs.Common.{◌≡◌, ℕ, zero, suc, ◌+◌, ◌-◌, ◌^◌, ◌<◌, ◌≤◌, ◌==◌, min, nat_lt, Bool, true, false}
use Rattle.std.proofs.Common.{not, if◌then◌else◌, Option, None, refl, ap, sym, ◌∙◌, arith}
use Rattle.std.proofs.lemmas.Bool.Decides.{nat_tests}
use Rattle.run_events.specs.Outcome.{ended_at, failed_count, has_failed_script, is_above_failure, outcome_of, summary}
use Rattle.run_events.specs.declared.cancel.CancelReason.{CancelReason}
use Rattle.run_events.specs.declared.outcome.FinalRunStats.{FinalRunStats}
use Rattle.run_events.specs.declared.outcome.FinalRunStats.TheVariants as finals
use Rattle.run_events.specs.declared.outcome.RunOutcome.{RunOutcome}
use Rattle.run_events.specs.declared.outcome.RunOutcome.TheVariants as outcomes
use Rattle.run_events.specs.declared.outcome.RunStep.{RunStep}
use Rattle.run_events.specs.declared.outcome.RunStep.TheVariants as steps
use Rattle.run_events.specs.declared.stats.RunStats.{RunStats}

-- no failure is counted, each script and each test to run has finished, and some test has
pub record IsGood (s : RunStats) : Type 0 where
  pub none_failed : s.failed + s.exec_failed + s.failed_timed_out ≡ 0
  pub no_script_failed : s.setup_scripts_failed + s.setup_scripts_exec_failed + s.setup_scripts_timed_out ≡ 0
  pub scripts : s.setup_scripts_initial_count ≤ s.setup_scripts_finished_count
  pub tests : s.initial_run_count ≤ s.finished_count
  pub some : 0 < s.finished_count

-- the summary by its tests
abbrev pub summed : Bool → Bool → Bool → Bool → Bool → Option CancelReason → FinalRunStats
summed script unfinished failed left none why =
    if script then ended_at steps.SetupScript why
    else if unfinished then finals.Cancelled why steps.SetupScript
    else if failed then ended_at steps.Test why
    else if left then finals.Cancelled why steps.Test
    else if none then finals.NoTestsRun
    else finals.Success

no_end : (step : RunStep) (why : Option CancelReason) → outcome_of (ended_at step why) ≡ outcomes.Success → ⊥
no_end step why e = by_reason (is_above_failure why) e
  where
    by_reason : (b : Bool)
        → outcome_of (if b then finals.Cancelled why step else finals.Failed step) ≡ outcomes.Success → ⊥
    by_reason true e = cc
    by_reason false e = cc

record AreAllFalse (a b c d e : Bool) : Type 0 where
  script : a ≡ false
  unfinished : b ≡ false
  failed : c ≡ false
  left : d ≡ false
  none : e ≡ false

all_false : (a b c d e : Bool) (why : Option CancelReason) → outcome_of (summed a b c d e why) ≡ outcomes.Success
    → AreAllFalse a b c d e
all_false true b c d e why is = absurd (no_end steps.SetupScript why is)
all_false false true c d e why is = cc
all_false false false true d e why is = absurd (no_end steps.Test why is)
all_false false false false true e why is = cc
all_false false false false false true why is = cc
all_false false false false false false why is =
    record { script = refl; unfinished = refl; failed = refl; left = refl; none = refl }

none_above : (n : ℕ) → nat_lt 0 n ≡ false → n ≡ 0
none_above n e = grind (arith, nat_tests)

not_below : (m n : ℕ) → nat_lt m n ≡ false → n ≤ m
not_below m n e = grind (arith, nat_tests)

some_of : (n : ℕ) → (n == 0) ≡ false → 0 < n
some_of n e = grind arith

least_none : (n : ℕ) → min n (2 ^ 64 - 1) ≡ 0 → n ≡ 0
least_none n e = omega (arith, e)

pub good_by : (s : RunStats) → outcome_of (summary s) ≡ outcomes.Success → IsGood s
unfolding summary
good_by s is =
    let all = all_false (has_failed_script s) (nat_lt s.setup_scripts_finished_count s.setup_scripts_initial_count)
    (nat_lt 0 (failed_count s)) (nat_lt s.finished_count s.initial_run_count) (s.finished_count == 0) s.cancel_reason
    is in
    let scripts : s.setup_scripts_failed + s.setup_scripts_exec_failed + s.setup_scripts_timed_out ≡ 0 =
    none_above (s.setup_scripts_failed + s.setup_scripts_exec_failed + s.setup_scripts_timed_out) all.script in
    let tests : s.failed + s.exec_failed + s.failed_timed_out ≡ 0 =
    least_none (s.failed + s.exec_failed + s.failed_timed_out) (none_above (failed_count s) all.failed) in
    record {
      none_failed = tests;
      no_script_failed = scripts;
      scripts = not_below s.setup_scripts_finished_count s.setup_scripts_initial_count all.unfinished;
      tests = not_below s.finished_count s.initial_run_count all.left;
      some = some_of s.finished_count all.none;
    }

-- and the other way
none_is : (n : ℕ) → n ≡ 0 → nat_lt 0 n ≡ false
none_is n e = ap (nat_lt 0) e

below_is : (m n : ℕ) → n ≤ m → nat_lt m n ≡ false
below_is m n h = grind (arith, nat_tests)

some_is : (n : ℕ) → 0 < n → (n == 0) ≡ false
some_is n h = grind arith

least_is : (n : ℕ) → n ≡ 0 → min n (2 ^ 64 - 1) ≡ 0
least_is n e = omega (arith, e)

pub success_by : (s : RunStats) → IsGood s → outcome_of (summary s) ≡ outcomes.Success
unfolding summary
success_by s good = by_tests
    (none_is (s.setup_scripts_failed + s.setup_scripts_exec_failed + s.setup_scripts_timed_out) good.no_script_failed)
    (below_is s.setup_scripts_finished_count s.setup_scripts_initial_count good.scripts)
    (none_is (failed_count s)
    (least_is (s.failed + s.exec_failed + s.failed_timed_out) good.none_failed))
    (below_is s.finished_count s.initial_run_count good.tests)
    (some_is s.finished_count good.some)
  where
    by_tests : has_failed_script s ≡ false
        → nat_lt s.setup_scripts_finished_count s.setup_scripts_initial_count ≡ false
        → nat_lt 0 (failed_count s) ≡ false → nat_lt s.finished_count s.initial_run_count ≡ false
        → (s.finished_count == 0) ≡ false
        → outcome_of (summed (has_failed_script s)
        (nat_lt s.setup_scripts_finished_count s.setup_scripts_initial_count) (nat_lt 0 (failed_count s))
        (nat_lt s.finished_count s.initial_run_count) (s.finished_count == 0) s.cancel_reason) ≡ outcomes.Success
    by_tests a b c d e = rw (a, b, c, d, e) refl

-- with no reason to cancel it, a run whose scripts and tests have all finished ends as the failures say
abbrev pub outcome_by : Bool → Bool → Bool → RunOutcome
outcome_by script failed some =
    if script then outcomes.Failed steps.SetupScript
    else if failed then outcomes.Failed steps.Test
    else if some then outcomes.Success
    else outcomes.NoTestsRun

summed-calm : (a c e : Bool) → outcome_of (summed a false c false e None) ≡ outcome_by a c (not e)
summed-calm true c e = refl
summed-calm false true e = refl
summed-calm false false true = refl
summed-calm false false false = refl

pub least-some : (n : ℕ) → nat_lt 0 (min n (2 ^ 64 - 1)) ≡ nat_lt 0 n
least-some zero = refl
least-some (suc n) = above_is (min (suc n) (2 ^ 64 - 1)) (omega arith) ∙ sym (above_is (suc n) (omega arith))
  where
    above_is : (m : ℕ) → 0 < m → nat_lt 0 m ≡ true
    above_is m h = grind (arith, nat_tests)

pub not-none : (n : ℕ) → not (n == 0) ≡ nat_lt 0 n
not-none zero = refl
not-none (suc n) = ap not (some_is (suc n) (omega arith)) ∙ sym (above_is (suc n) (omega arith))
  where
    above_is : (m : ℕ) → 0 < m → nat_lt 0 m ≡ true
    above_is m h = grind (arith, nat_tests)

pub summary-calm : (s : RunStats) → s.cancel_reason ≡ None
    → s.setup_scripts_initial_count ≤ s.setup_scripts_finished_count → s.initial_run_count ≤ s.finished_count
    → outcome_of (summary s)
    ≡ outcome_by (nat_lt 0 (s.setup_scripts_failed + s.setup_scripts_exec_failed + s.setup_scripts_timed_out))
    (nat_lt 0 (s.failed + s.exec_failed + s.failed_timed_out)) (nat_lt 0 s.finished_count)
unfolding summary
summary-calm s calm scripts tests =
    ap (λ why. outcome_of (summed (has_failed_script s)
    (nat_lt s.setup_scripts_finished_count s.setup_scripts_initial_count) (nat_lt 0 (failed_count s))
    (nat_lt s.finished_count s.initial_run_count) (s.finished_count == 0) why)) calm
    ∙ ap (λ b. outcome_of (summed (has_failed_script s) b (nat_lt 0 (failed_count s))
    (nat_lt s.finished_count s.initial_run_count) (s.finished_count == 0) None))
    (below_is s.setup_scripts_finished_count s.setup_scripts_initial_count scripts)
    ∙ ap (λ b. outcome_of (summed (has_failed_script s) false (nat_lt 0 (failed_count s)) b
    (s.finished_count == 0) None)) (below_is s.finished_count s.initial_run_count tests)
    ∙ summed-calm (has_failed_script s) (nat_lt 0 (failed_count s)) (s.finished_count == 0)
    ∙ ap (λ b. outcome_by (has_failed_script s) b (not (s.finished_count == 0)))
    (least-some (s.failed + s.exec_failed + s.failed_timed_out))
    ∙ ap (outcome_by (has_failed_script s) (nat_lt 0 (s.failed + s.exec_failed + s.failed_timed_out)))
    (not-none s.finished_count)
