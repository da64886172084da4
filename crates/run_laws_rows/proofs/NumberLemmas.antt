-- Usual tests, and the times of slow reports, in numbers.
use Rattle.std.proofs.Common.{◌≡◌, ℕ, zero, suc, ◌+◌, ◌-◌, ◌*◌, ◌^◌, min, refl, arith}
use Rattle.run_laws_rows.specs.Numbers.{SlowTimesAreWhole, UsualTestsHaveNumbers, periods}

pub usual_numbers : UsualTestsHaveNumbers
usual_numbers id command skip = record {
  period = refl;
  endless = refl;
  grace = refl;
  on_timeout = refl;
  leak_period = refl;
  leak_result = refl;
  flaky = refl;
  weight = refl;
  priority = refl;
  group = refl;
  retries = refl;
  scripts = refl;
}

-- one period more
added : (n period : ℕ) → min (n * period) (2 ^ 64 - 1) ≡ periods period n
added zero period = let none : 0 * period ≡ 0 = grind arith in rw none refl
added (suc n) period =
    let more : suc n * period ≡ n * period + period = grind arith in
    rw more (saturates (n * period) (periods period n) (added n period))
  where
    saturates : (a b : ℕ) → min a (2 ^ 64 - 1) ≡ b
        → min (a + period) (2 ^ 64 - 1) ≡ min (b + period) 18446744073709551615
    saturates a b is = omega (arith, is)

pub slow_times : SlowTimesAreWhole
slow_times slow n = added n slow.period
