-- What a test of a plan is where the plan says nothing else, and the times of slow reports, in numbers.
use Rattle.std.specs.Prelude.{ℕ, zero, suc, ◌+◌, ◌*◌, ◌≡◌, min, pos, List, [], Option, None}
use Rattle.run_events.specs.Usual.{usual_test}
use Rattle.run_events.specs.declared.plan.PlanTest.{PlanTest}
use Rattle.run_events.specs.declared.plan.SlowTimeout.{SlowTimeout}
use Rattle.run_events.specs.declared.plan.TestInstanceId.{TestInstanceId}
use Rattle.run_events.specs.declared.result.FlakyResult.TheVariants as flakies
use Rattle.run_events.specs.declared.result.LeakTimeoutResult.TheVariants as leaks
use Rattle.run_events.specs.declared.result.SlowTimeoutResult.TheVariants as timeouts
use Rattle.run_model.specs.Backoff.{retry_count}
use Rattle.run_model.specs.Slow.{slow_time}

-- a test that is slow after 60 s, never ended for that, given 10 s where it is ended otherwise, whose streams are
-- waited for during 200 ms, and that passes where it leaks or passes after a failed attempt; of weight 1 and priority
-- 0, in no group, with no retry and no script
pub record HasUsualNumbers (test : PlanTest) : Type 0 where
  pub period : test.slow.period ≡ 60 * 1000000000
  pub endless : test.slow.terminate_after ≡ None
  pub grace : test.slow.grace ≡ 10 * 1000000000
  pub on_timeout : test.slow.on_timeout ≡ timeouts.Fail
  pub leak_period : test.leak.period ≡ 200 * 1000000
  pub leak_result : test.leak.result ≡ leaks.Pass
  pub flaky : test.flaky ≡ flakies.Pass
  pub weight : test.weight ≡ 1
  pub priority : test.priority ≡ pos 0
  pub group : test.group ≡ None
  pub retries : retry_count test.retries ≡ 0
  pub scripts : test.scripts ≡ []

-- the usual test of each id, command and skip is one
abbrev pub UsualTestsHaveNumbers : Type 0
UsualTestsHaveNumbers = (id : TestInstanceId) (command : List (List ℕ)) (skip : Option (List ℕ))
    → HasUsualNumbers (usual_test id command skip)

-- so many periods, one after another, each time at most to the greatest u64
abbrev pub periods : ℕ → ℕ → ℕ
periods period zero = 0
periods period (suc n) = min (periods period n + period) 18446744073709551615

-- the time of a slow report is as many periods as the attempt was slow times
abbrev pub SlowTimesAreWhole : Type 0
SlowTimesAreWhole = (slow : SlowTimeout) (n : ℕ) → slow_time slow n ≡ periods slow.period n
