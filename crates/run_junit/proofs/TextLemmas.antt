-- Numbers that are padded with zeros.
use Rattle.std.proofs.Common.{◌≡◌, ℕ, ◌-◌, ◌^◌, false, [], ◌++◌, ap, decimal, length, replicate, arith, append-nil}
use Rattle.std.specs.Fmt.{padded_integral, format_spec, char_count}
use Rattle.run_progress.specs.Texts.{two_digits}
use Rattle.run_report.specs.Texts.{three_digits}
use Rattle.run_junit.specs.Texts.{four_digits}

-- what `{:02}` writes
pub padded_two : (n : ℕ)
    → padded_integral (format_spec 32 0 4 2 (2 ^ 64 - 1)) false [] (decimal n) ≡ two_digits n
unfolding padded_integral char_count
padded_two n =
    let zeros : 2 - length (decimal n) - 0 - 0 ≡ 2 - length (decimal n) = omega arith in
    rw append-nil (ap (λ (k : ℕ). replicate k 48 ++ decimal n) zeros)

-- what `{:03}` writes
pub padded_three : (n : ℕ)
    → padded_integral (format_spec 32 0 4 3 (2 ^ 64 - 1)) false [] (decimal n) ≡ three_digits n
unfolding padded_integral char_count
padded_three n =
    let zeros : 3 - length (decimal n) - 0 - 0 ≡ 3 - length (decimal n) = omega arith in
    rw append-nil (ap (λ (k : ℕ). replicate k 48 ++ decimal n) zeros)

-- what `{:04}` writes
pub padded_four : (n : ℕ)
    → padded_integral (format_spec 32 0 4 4 (2 ^ 64 - 1)) false [] (decimal n) ≡ four_digits n
unfolding padded_integral char_count
padded_four n =
    let zeros : 4 - length (decimal n) - 0 - 0 ≡ 4 - length (decimal n) = omega arith in
    rw append-nil (ap (λ (k : ℕ). replicate k 48 ++ decimal n) zeros)

pub ruleset padded = (padded_two, padded_three)
