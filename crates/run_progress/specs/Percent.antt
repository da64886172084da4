-- How much of a whole is done, in percent.
use Rattle.std.specs.Prelude.{ℕ, ◌+◌, ◌*◌, ◌/◌, ◌==◌, min, if◌then◌else◌}

-- the nearest whole percentage, a half upwards, and 100 at most; 100 of nothing
abbrev pub percent_of : ℕ → ℕ → ℕ
percent_of done total = if total == 0 then 100 else min 100 ((200 * done + total) / (2 * total))
