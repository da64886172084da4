-- What a text says as the count of a stress run.
use Rattle.std.specs.Prelude.{ℕ, ◌≡◌, ◌≢◌, ◌<◌, ◌^◌, List, codes}
use Rattle.std.specs.Int.NonZero.{non_zero_u32_get}
use Rattle.std.specs.Str.Parse.{IsNumeral, digits_value, without_leading_plus}
use Rattle.run_commands.specs.declared.stress_count.StressCount.{StressCount}
use Rattle.run_commands.specs.declared.stress_count.StressCount.TheVariants as stress

-- decimal digits, with an optional `+` before them, whose value is this one
abbrev pub IsDecimal : List ℕ → ℕ → Type 0
IsDecimal text n = IsNumeral 10 (without_leading_plus text) × (digits_value 10 (without_leading_plus text) ≡ n)

-- the word `infinite`, or the decimal digits of the count
abbrev pub SaysCount : List ℕ → StressCount → Type 0
SaysCount text stress.Infinite = text ≡ codes "infinite"
SaysCount text (stress.Count count) = IsDecimal text (non_zero_u32_get count)

-- not the word, and not the decimal digits of any number from 1 to the greatest u32
abbrev pub SaysNoCount : List ℕ → Type 0
SaysNoCount text = (text ≢ codes "infinite") × ((n : ℕ) → 0 < n → n < 2 ^ 32 → ¬ IsDecimal text n)
